mod WeigherLemmas
