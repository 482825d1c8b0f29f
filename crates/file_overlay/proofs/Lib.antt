mod LastRuns
mod Laying
