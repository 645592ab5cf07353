mod Digits
mod Forms
mod Reading
