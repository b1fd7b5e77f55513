mod Requests
mod Crossing
mod SendLemmas
