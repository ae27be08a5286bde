mod Moments
mod Preparing
mod ReplyCopies
