mod Locating
mod Reading
