mod Numbers
mod Passing
mod Reading
