-- Ladders: systems of calls that each double the run.
use Rattle.std.specs.Prelude.{ℕ, zero, suc, ◌+◌, ◌*◌, List, [], ◌∷◌, ◌++◌, None, false, codes, decimal}
use Rattle.document_forms.specs.declared.weight.WeightsLine.TheVariants.{Cost}
use Rattle.document_forms.specs.declared.weight.WeightText.TheVariants.{Number}
use Rattle.document_forms.specs.declared.pattern.SetText.TheVariants.{Listed}
use Rattle.document_forms.specs.declared.document.RuleLine.{RuleLine}
use Rattle.document_forms.specs.declared.document.QueryLine.{QueryLine}
use Rattle.document_forms.specs.Documents.{Document}

-- costs are cut here
abbrev pub ladder_cap : ℕ
ladder_cap = 1000000000

-- ---- symbols: where a rung is entered, between its two calls, and behind them

abbrev pub entry : ℕ → List ℕ
entry i = codes "e" ++ decimal i

abbrev pub middle : ℕ → List ℕ
middle i = codes "m" ++ decimal i

abbrev pub exit : ℕ → List ℕ
exit i = codes "x" ++ decimal i

abbrev pub rung_symbols : ℕ → List (List ℕ)
rung_symbols i = entry i ∷ middle i ∷ exit i ∷ []

-- of so many rungs from a rung on, and then the entry of the last
abbrev pub symbols_from : ℕ → ℕ → List (List ℕ)
symbols_from i zero = entry i ∷ []
symbols_from i (suc n) = rung_symbols i ++ symbols_from (i + 1) n

-- ---- rules

-- over the one control
abbrev pub rule : ℕ → List ℕ → ℕ → RuleLine
rule symbol right cost = record {
  control = 0;
  symbol = symbol;
  to = 0;
  right = right;
  weight = Number cost;
  map = None;
}

-- a rung calls the next one twice, and returns
abbrev pub rung_rules : ℕ → List RuleLine
rung_rules i =
    rule (3 * i) ((3 * i + 3) ∷ (3 * i + 1) ∷ []) 0
    ∷ rule (3 * i + 1) ((3 * i + 3) ∷ (3 * i + 2) ∷ []) 0
    ∷ rule (3 * i + 2) [] 0 ∷ []

-- the last entry returns at once, at a cost of one
abbrev pub rules_from : ℕ → ℕ → List RuleLine
rules_from i zero = rule (3 * i) [] 1 ∷ []
rules_from i (suc n) = rung_rules i ++ rules_from (i + 1) n

-- from the first entry to the empty stack
abbrev pub question : QueryLine
question = record {
  from = record {
    control = 0;
    items = (record { set = Listed (0 ∷ []); star = false }) ∷ [];
  };
  to = record { control = 0; items = [] };
}

abbrev pub ladder_document : ℕ → Document
ladder_document n = record {
  weights = Cost ladder_cap;
  controls = codes "p" ∷ [];
  symbols = symbols_from 0 n;
  items = [];
  rules = rules_from 0 n;
  queries = question ∷ [];
}
