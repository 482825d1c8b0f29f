mod ImageRows
mod Rows
