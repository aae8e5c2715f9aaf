mod Cuts
mod Numbers
mod Rules
mod Walk
mod Words
mod Samples
