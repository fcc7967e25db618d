mod FeedLemmas
mod ServedLemmas
