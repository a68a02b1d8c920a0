mod Belonging
mod Closing
mod Gathering
mod Marking
mod Occurring
mod Subjecting
mod Whole
