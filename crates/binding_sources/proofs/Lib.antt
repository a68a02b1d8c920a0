mod Handings
mod Linking
mod Shortened
mod Decorators
