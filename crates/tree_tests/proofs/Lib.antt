mod Made
mod Cutting
