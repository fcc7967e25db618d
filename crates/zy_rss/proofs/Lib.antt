mod WindowLemmas
