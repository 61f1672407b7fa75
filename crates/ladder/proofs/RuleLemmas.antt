-- The rules and the query of a ladder are over its own symbols.
use Rattle.std.proofs.Common.{◌≡◌, inr, ℕ, zero, suc, ◌+◌, ◌*◌, ◌^◌, ◌<◌, ◌≤◌, List, [], ◌∷◌, ◌++◌, map, length, refl, ap, ◌∙◌, arith, codes, append_assoc, ◌-◌}
use Rattle.std.specs.Prelude.{All, None, false}
use Rattle.std.proofs.lemmas.List.Elements.{All-nil, All-cons}
use Rattle.document_forms.specs.declared.weight.WeightsLine.TheVariants.{Cost}
use Rattle.document_forms.specs.declared.document.RuleLine.{RuleLine}
use Rattle.document_forms.specs.declared.pattern.ItemText.{ItemText}
use Rattle.document_forms.specs.declared.pattern.SetText.TheVariants.{Listed}
use Rattle.document_forms.specs.Lawful.{AreBelow, IsRuleLine, IsSetText, IsQueryLine, HasMap, HasSets, HasSymbol, IsName, IsDocument, IsQueryOf}
use Rattle.wpds_base.specs.Limits.{most_rungs}
use Rattle.ladder.specs.Ladders.{rule, rung_rules, rules_from, question, ladder_document}
use Rattle.ladder.proofs.NameLemmas.{symbol_count, symbols_are_names}

abbrev cap : ℕ
cap = 1000000000

-- rules over so many symbols
abbrev IsRule : ℕ → RuleLine → Type 0
IsRule count = IsRuleLine (Cost cap) 1 count 0

one_rule : (count symbol : ℕ) (right : List ℕ) (cost : ℕ) → symbol < count → AreBelow count right → length right ≤ 2 → cost < 2 ^ 64
    → IsRule count (rule symbol right cost)
one_rule count symbol right cost within below short small = record {
  control = omega arith;
  symbol = within;
  to = omega arith;
  right = below;
  short = short;
  weight = small;
  map = tt;
}

below_none : (count : ℕ) → AreBelow count []
below_none count = All-nil (λ k. k < count)

below_two : (count j k : ℕ) → j < count → k < count → AreBelow count (j ∷ k ∷ [])
below_two count j k one other = All-cons (λ m. m < count) j (k ∷ []) one (All-cons (λ m. m < count) k [] other (below_none count))

rules_lawful : (count i n : ℕ) → 3 * (i + n) + 1 ≡ count → All (IsRule count) (rules_from i n)
rules_lawful count i zero is =
    All-cons (IsRule count) (rule (3 * i) [] 1) [] (one_rule count (3 * i) [] 1 (omega (arith, is)) (below_none count) (omega arith) (omega arith)) (All-nil (IsRule count))
rules_lawful count i (suc n) is =
    let rest = rules_from (i + 1) n in
    let first = one_rule count (3 * i) ((3 * i + 3) ∷ (3 * i + 1) ∷ []) 0 (omega (arith, is)) (below_two count (3 * i + 3) (3 * i + 1) (omega (arith, is)) (omega (arith, is))) (omega arith) (omega arith) in
    let second = one_rule count (3 * i + 1) ((3 * i + 3) ∷ (3 * i + 2) ∷ []) 0 (omega (arith, is)) (below_two count (3 * i + 3) (3 * i + 2) (omega (arith, is)) (omega (arith, is))) (omega arith) (omega arith) in
    let third = one_rule count (3 * i + 2) [] 0 (omega (arith, is)) (below_none count) (omega arith) (omega arith) in
    All-cons (IsRule count) (rule (3 * i) ((3 * i + 3) ∷ (3 * i + 1) ∷ []) 0) (rule (3 * i + 1) ((3 * i + 3) ∷ (3 * i + 2) ∷ []) 0 ∷ rule (3 * i + 2) [] 0 ∷ rest) first
    (All-cons (IsRule count) (rule (3 * i + 1) ((3 * i + 3) ∷ (3 * i + 2) ∷ []) 0) (rule (3 * i + 2) [] 0 ∷ rest) second
    (All-cons (IsRule count) (rule (3 * i + 2) [] 0) rest third (rules_lawful count (i + 1) n (omega (arith, is)))))

maps_lawful : (i n : ℕ) → All HasMap (map (λ r. r.map) (rules_from i n))
maps_lawful i zero = All-cons HasMap None [] tt (All-nil HasMap)
maps_lawful i (suc n) =
    let rest = map (λ r. r.map) (rules_from (i + 1) n) in
    All-cons HasMap None (None ∷ None ∷ rest) tt (All-cons HasMap None (None ∷ rest) tt (All-cons HasMap None rest tt (maps_lawful (i + 1) n)))

pub rule_count : (i n : ℕ) → length (rules_from i n) ≡ 3 * n + 1
rule_count i zero = refl
rule_count i (suc n) = omega (arith, rule_count (i + 1) n)

abbrev item : ItemText
item = record { set = Listed (0 ∷ []); star = false }

asks : (all count : ℕ) → 0 < count → IsQueryLine all 1 count question
asks all count some = record {
  from = record {
    control = omega arith;
    items = All-cons (λ i. IsSetText count i.set) item [] (All-cons (λ k. k < count) 0 [] some (below_none count), ((λ none. none), tt)) (All-nil (λ i. IsSetText count i.set));
    few = omega arith;
    edges = omega arith;
  };
  to = record {
    control = omega arith;
    items = All-nil (λ i. IsSetText count i.set);
    few = omega arith;
    edges = omega arith;
  };
}

has_sets : HasSets question
has_sets = (All-cons (λ i. HasSymbol i.set) item [] (λ none. cc) (All-nil (λ i. HasSymbol i.set)), All-nil (λ i. HasSymbol i.set))

one_control : IsName (codes "p")
one_control = record { text = refl; short = omega arith; free = refl }

pub is_document : (n : ℕ) → n ≤ most_rungs → IsDocument (ladder_document n)
is_document n few =
    let d = ladder_document n in
    let count = symbol_count 0 n in
    record {
      weights = (omega arith, omega arith);
      controls = record {
        few = omega arith;
        once = ((λ none. none), tt);
        lawful = All-cons IsName (codes "p") [] one_control (All-nil IsName);
      };
      symbols = symbols_are_names n few;
      items = record { few = omega arith; once = tt; lawful = All-nil IsName };
      has_items = inr refl;
      rules = rules_lawful (length d.symbols) 0 n (omega (arith, count));
      maps = maps_lawful 0 n;
      few_rules = omega (arith, rule_count 0 n, few);
      queries = All-cons (IsQueryOf d) question [] (asks (length d.symbols) (length d.symbols) (omega (arith, count))) (All-nil (IsQueryOf d));
      sets = All-cons HasSets question [] has_sets (All-nil HasSets);
      asked = λ none. cc;
      few_queries = omega arith;
    }

-- ---- one rung more

pub rules_step : (rules : List RuleLine) (i n : ℕ) → i < n
    → (rules ++ rung_rules i) ++ rules_from (i + 1) (n - (i + 1)) ≡ rules ++ rules_from i (n - i)
rules_step rules i n below =
    let more : suc (n - (i + 1)) ≡ n - i = omega (arith, below) in
    append_assoc rules (rung_rules i) (rules_from (i + 1) (n - (i + 1))) ∙ ap (λ k. rules ++ rules_from i k) more
