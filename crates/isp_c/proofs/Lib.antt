mod Runs
mod Traces
