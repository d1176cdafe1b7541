mod EndingLemmas
