mod Rows
mod Meeting
mod Shares
mod First
mod Standing
mod Whole
mod Choosing
