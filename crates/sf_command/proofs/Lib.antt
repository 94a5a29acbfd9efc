mod JobLemmas
mod NoteLemmas
mod ReasonLemmas
mod ConsoleLemmas
mod LineJobLemmas
mod EntryLemmas
