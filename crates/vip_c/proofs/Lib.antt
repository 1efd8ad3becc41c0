mod WordLemmas
mod FileLemmas
