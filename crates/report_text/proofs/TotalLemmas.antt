-- What is counted of joined lists of runs.
use Rattle.std.proofs.Common.{◌≡◌, ℕ, ◌+◌, ◌*◌, ◌<◌, ◌≤◌, Bool, true, false, List, [], ◌∷◌, ◌++◌, length, map, refl, sym, ap, subst, ◌∙◌, length-append, arith}
use Rattle.std.specs.Prelude.{◌^◌, Option, None, Some, nat_lt, slice_get, slice_index_or}
use Rattle.std.proofs.Math.Nat.{zero-mul, mul-suc, suc-mul, add-mul, mul_comm, mul-pos, le-mul_of_pos_right}
use Rattle.std.proofs.lemmas.Bool.{ltb-true, ltb-false}
use Rattle.std.proofs.lemmas.List.{length-map, get_or_append_left, get_or_push, length_push}
use Rattle.std.proofs.lemmas.List.Sums.{sum_by-cons, sum_by-append}
use Rattle.witness_graph.specs.declared.node.Node.{Node}
use Rattle.witness_graph.specs.declared.node.Node.TheVariants.{Start, Lower}
use Rattle.witness_graph.specs.declared.node.Side.{Side}
use Rattle.witness_graph.specs.Runs.{concatenations, runs_of, runs_over}
use Rattle.report_text.specs.Expansions.{size_of}
use Rattle.report_text.specs.private.Counting.{rules_in, Amounts, IsCounted, AreCounted}
use Rattle.report_text.specs.declared.totals.Totals.{Totals}

pub size_is : (runs : List (List ℕ)) → size_of runs ≡ length runs + rules_in runs
size_is [] = refl
size_is (r ∷ rs) = omega (arith, sum_by-cons (λ (run : List ℕ). length run + 1) r rs, sum_by-cons {X = List ℕ} length r rs, size_is rs)

rules-behind : (run : List ℕ) (ys : List (List ℕ)) → rules_in (map (λ b. run ++ b) ys) ≡ length run * length ys + rules_in ys
rules-behind run [] = omega arith
rules-behind run (y ∷ ys) =
    omega (arith, sum_by-cons {X = List ℕ} length (run ++ y) (map (λ b. run ++ b) ys), sum_by-cons {X = List ℕ} length y ys, length-append run y, rules-behind run ys, mul-suc (length run) (length ys))

pub length-concatenations : (xs ys : List (List ℕ)) → length (concatenations xs ys) ≡ length xs * length ys
length-concatenations [] ys = sym (zero-mul (length ys))
length-concatenations (x ∷ xs) ys =
    omega (arith, length-append (map (λ b. x ++ b) ys) (concatenations xs ys), length-map ys (λ b. x ++ b), length-concatenations xs ys, suc-mul (length xs) (length ys))

pub rules-concatenations : (xs ys : List (List ℕ)) → rules_in (concatenations xs ys) ≡ rules_in xs * length ys + length xs * rules_in ys
rules-concatenations [] ys = omega (arith, zero-mul (length ys), zero-mul (rules_in ys))
rules-concatenations (x ∷ xs) ys =
    let split : rules_in (concatenations (x ∷ xs) ys) ≡ rules_in (map (λ b. x ++ b) ys) + rules_in (concatenations xs ys) =
    sum_by-append {X = List ℕ} length (map (λ b. x ++ b) ys) (concatenations xs ys) in
    let all : rules_in (x ∷ xs) ≡ length x + rules_in xs = sum_by-cons {X = List ℕ} length x xs in
    let product : rules_in (x ∷ xs) * length ys ≡ length x * length ys + rules_in xs * length ys = ap (λ k. k * length ys) all ∙ add-mul (length x) (rules_in xs) (length ys) in
    let more : length (x ∷ xs) * rules_in ys ≡ length xs * rules_in ys + rules_in ys = suc-mul (length xs) (rules_in ys) in
    split ∙ ap (λ k. k + rules_in (concatenations xs ys)) (rules-behind x ys) ∙ ap (λ k. length x * length ys + rules_in ys + k) (rules-concatenations xs ys)
    ∙ sum_around (length x * length ys) (rules_in ys) (rules_in xs * length ys) (length xs * rules_in ys)
    ∙ ap (λ k. k + (length xs * rules_in ys + rules_in ys)) (sym product) ∙ ap (λ k. rules_in (x ∷ xs) * length ys + k) (sym more)
  where
    sum_around : (a b c d : ℕ) → a + b + (c + d) ≡ a + c + (d + b)
    sum_around a b c d = omega arith

-- ---- totals of concatenations

same_amounts : (t : Option Totals) (n m n' m' : ℕ) → n ≡ n' → m ≡ m' → Amounts t n m → Amounts t n' m'
same_amounts None n m n' m' e f h = omega arith
same_amounts (Some t) n m n' m' e f h = (h.0 ∙ e, h.1 ∙ f)

some-concatenations : (xs ys : List (List ℕ)) → 0 < length xs → 0 < length ys → 0 < length (concatenations xs ys)
some-concatenations xs ys p q = omega (arith, length-concatenations xs ys, mul-pos p q)

pub left_over : (xs ys : List (List ℕ)) → IsCounted None xs → 0 < length ys → IsCounted None (concatenations xs ys)
left_over xs ys a q = record {
  some = some-concatenations xs ys a.some q;
  amounts = omega (arith, a.amounts, length-concatenations xs ys, rules-concatenations xs ys, le-mul_of_pos_right (length xs) q, le-mul_of_pos_right (rules_in xs) q);
}

pub right_over : (xs ys : List (List ℕ)) → 0 < length xs → IsCounted None ys → IsCounted None (concatenations xs ys)
right_over xs ys p b = record {
  some = some-concatenations xs ys p b.some;
  amounts = omega (arith, b.amounts, length-concatenations xs ys, rules-concatenations xs ys, mul_comm (length xs) (length ys), mul_comm (length xs) (rules_in ys), le-mul_of_pos_right (length ys) p, le-mul_of_pos_right (rules_in ys) p);
}

pub both_counted : (t : Option Totals) (a b : Totals) (xs ys : List (List ℕ)) → Amounts t (a.runs * b.runs) (a.rules * b.runs + a.runs * b.rules) → IsCounted (Some a) xs → IsCounted (Some b) ys
    → IsCounted t (concatenations xs ys)
both_counted t a b xs ys h p q = record {
  some = some-concatenations xs ys p.some q.some;
  amounts = same_amounts t (a.runs * b.runs) (a.rules * b.runs + a.runs * b.rules) (length (concatenations xs ys)) (rules_in (concatenations xs ys))
      (ap (λ k. k * b.runs) p.amounts.0 ∙ ap (λ k. length xs * k) q.amounts.0 ∙ sym (length-concatenations xs ys))
      (ap (λ k. k * b.runs + a.runs * b.rules) p.amounts.1 ∙ ap (λ k. rules_in xs * k + a.runs * b.rules) q.amounts.0 ∙ ap (λ k. rules_in xs * length ys + k * b.rules) p.amounts.0
      ∙ ap (λ k. rules_in xs * length ys + length xs * k) q.amounts.1 ∙ sym (rules-concatenations xs ys)) h;
}

-- ---- totals of nodes, one more at a time

pub counted_push : (totals : List (Option Totals)) (t : Option Totals) (known : ℕ → List (List ℕ)) (i : ℕ) → length totals ≡ i → AreCounted totals known → IsCounted t (known i) → AreCounted (totals ++ t ∷ []) known
counted_push totals t known i is all new k h = go (nat_lt k i) refl
  where
    go : (b : Bool) → nat_lt k i ≡ b → IsCounted (slice_index_or (totals ++ t ∷ []) k None) (known k)
    go true e =
        let here : k < length totals = omega (arith, ltb-true k i e) in
        subst (λ o. IsCounted o (known k)) (sym (get_or_append_left totals (t ∷ []) None k here)) (all k here)
    go false e =
        let at : k ≡ i = omega (arith, ltb-false k i e, length_push totals t) in
        subst (λ o. IsCounted o (known k)) (sym (ap (λ j. slice_index_or (totals ++ t ∷ []) j None) at ∙ get_or_push totals t None i is)) (subst (λ j. IsCounted t (known j)) (sym at) new)

-- the runs of a node over those before it
pub over_nodes : (side : Side) (nodes : List Node)
    → ((k : ℕ) → slice_get nodes k ≡ Some Start → runs_of side nodes k ≡ [] ∷ [])
    → ((k : ℕ) (before rule first second : Option ℕ) → slice_get nodes k ≡ Some (Lower before rule first second) → runs_of side nodes k ≡ runs_over side (runs_of side nodes) (Lower before rule first second))
    → (k : ℕ) (n : Node) → slice_get nodes k ≡ Some n → runs_of side nodes k ≡ runs_over side (runs_of side nodes) n
over_nodes side nodes start lower k Start at = start k at
over_nodes side nodes start lower k (Lower before rule first second) at = lower k before rule first second at

-- ---- sizes that fit

pub size_known : (total : Option Totals) (t : Totals) (runs : List (List ℕ)) → total ≡ Some t → IsCounted total runs → size_of runs ≡ t.runs + t.rules
size_known total t runs is h =
    let known = subst (λ (o : Option Totals). IsCounted o runs) is h in
    omega (arith, size_is runs, known.amounts)

pub size_over : (total : Option Totals) (runs : List (List ℕ)) → total ≡ None → IsCounted total runs → 2 ^ 64 ≤ size_of runs
size_over total runs is h =
    let known = subst (λ (o : Option Totals). IsCounted o runs) is h in
    omega (arith, size_is runs, known.amounts)

-- ---- the empty run alone

no_rules : (r : List ℕ) → length r ≡ 0 → r ≡ []
no_rules [] e = refl
no_rules (x ∷ r) e = absurd (omega arith)

pub empty_alone : (runs : List (List ℕ)) → length runs ≡ 1 → rules_in runs ≡ 0 → runs ≡ [] ∷ []
empty_alone [] one none = absurd (omega arith)
empty_alone (r ∷ []) one none = ap (λ l. l ∷ []) (no_rules r (omega (arith, none, sum_by-cons {X = List ℕ} length r [])))
empty_alone (r ∷ s ∷ rs) one none = absurd (omega arith)
