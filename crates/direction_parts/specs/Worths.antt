-- The weights of inputs, and what those of a job are made of.
use Rattle.std.specs.Prelude.{List, All, unwrap_or}
use Rattle.semiring_laws.specs.Semiring.{Operations, Fits}
use Rattle.weighted_automata.specs.declared.transitions.Entry.{Entry}
use Rattle.pushdown_rules.specs.declared.rule.Rule.{Rule}

-- the weight of each transition is one of the semiring's
abbrev pub AreFit : {S W Map : Type 0} → Operations W Map → List (Entry S W Map) → Type 0
AreFit s ts = All (λ t. Fits s t.weight) ts

-- what the return map of a call makes of the value inside it
abbrev pub after_return : {S W Map : Type 0} → Operations W Map → Rule S W Map → W → W
after_return s r inside = s.after (unwrap_or r.map s.plain) inside
