mod Completions
