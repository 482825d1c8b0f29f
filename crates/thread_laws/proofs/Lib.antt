mod ClosedLines
mod Working
mod Moving
mod Ending
mod Crashing
