mod Absent
mod ChainWalks
mod Committed
mod Counting
mod Facts
mod Resets
mod Steps
mod Upgrades
