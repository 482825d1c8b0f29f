mod OneRun
mod Rows
