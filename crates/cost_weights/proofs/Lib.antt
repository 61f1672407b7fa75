mod CostLemmas
