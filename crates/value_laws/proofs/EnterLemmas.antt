-- To a target, settled weights lie below the runs of their places.
use Rattle.std.proofs.Common.{◌≡◌, inl, inr, ℕ, zero, suc, ◌+◌, ◌≤◌, List, [], ◌∷◌, ◌++◌, length, refl, sym, ap, ◌∙◌, subst, arith}
use Rattle.std.specs.Prelude.{Some, slice_get}
use Rattle.std.proofs.lemmas.List.{length-append}
use Rattle.semiring_laws.specs.Semiring.{Operations, IsSemiring, Fits, Below}
use Rattle.pushdown_rules.specs.declared.rule.Rule.{Rule}
use Rattle.pushdown_rules.specs.Configuration.{Configuration, at_stack}
use Rattle.pushdown_rules.specs.Pushdown.{Pushdown, IsSystem}
use Rattle.pushdown_rules.specs.Firing.{Run}
use Rattle.pushdown_rules.specs.Splits.{Falls, Stays}
use Rattle.pushdown_rules.specs.Values.{value_of}
use Rattle.pushdown_rules.proofs.CallerLemmas.{none_from_nothing, split}
use Rattle.config_patterns.specs.declared.edge.Edge.{Edge}
use Rattle.config_patterns.specs.Paths.{Reads}
use Rattle.wpds_base.specs.Lists.{IsIn}
use Rattle.value_laws.specs.Runs.{Pops, Enters}
use Rattle.value_laws.specs.Settled.{Table, AreWeights, AreEntersSettled}
use Rattle.value_laws.proofs.RuleLemmas.{begins, few, step_below, call_below, open_below}

-- reading on from where a word was read
pub record ReadsParts (edges : List Edge) (from : ℕ) (first rest : List ℕ) (to : ℕ) : Type 0 where
  pub mid : ℕ
  pub reads : Reads edges from first mid
  pub reads_on : Reads edges mid rest to

pub reads_parts : (edges : List Edge) (from : ℕ) (first rest : List ℕ) (to : ℕ) → Reads edges from (first ++ rest) to → ReadsParts edges from first rest to
reads_parts edges from [] rest to reads = record { mid = from; reads = refl; reads_on = reads }
reads_parts edges from (g ∷ first) rest to reads =
    let next = reads_parts edges reads.0 first rest to reads.2 in
    record { mid = next.mid; reads = (reads.0, reads.1, next.reads); reads_on = next.reads_on }

module _ {S W Map : Type 0} {operations : S → Operations W Map} {p : Pushdown S W Map} (valid : IsSystem operations p) (laws : IsSemiring (operations p.semiring))
    (control : ℕ) (edges : List Edge) (pops weight : Table W) (fits_pops : AreWeights (operations p.semiring) pops) (fits : AreWeights (operations p.semiring) weight)
    (pops_below : (run : List ℕ) (from g to : ℕ) → Pops p from g to run → Below (operations p.semiring) (pops from g to) (value_of (operations p.semiring) p run))
    (settled : AreEntersSettled (operations p.semiring) p control edges pops weight weight) where
  abbrev s : Operations W Map
  s = operations p.semiring

  abbrev value : List ℕ → W
  value = value_of s p

  abbrev Leads : ℕ → ℕ → ℕ → List ℕ → Type 0
  Leads from g to run = Enters p control edges from g to run

  -- what is known of shorter runs
  abbrev BelowUpTo : ℕ → Type 0
  BelowUpTo n = (run : List ℕ) → length run ≤ n → (from g to : ℕ) → Leads from g to run → Below s (weight from g to) (value run)

  module _ (n : ℕ) (known : BelowUpTo n) (k : ℕ) (r : Rule S W Map) (there : slice_get p.rules k ≡ Some r) (run : List ℕ) (short : length run ≤ n) (to : ℕ)
      (word : List ℕ) (full : word ≡ [] → ⊥) (reads : Reads edges 0 word to) where
    abbrev goal : W
    goal = weight r.control r.symbol to

    fg : Fits s goal
    fg = fits r.control r.symbol to

    behind_call : (g h : ℕ) → r.right ≡ g ∷ h ∷ [] → Falls p r.to (g ∷ []) (h ∷ []) run (at_stack control word) → Below s goal (value (k ∷ run))
    behind_call g h right falls =
        let a = falls.first in
        let b = falls.rest in
        let mid = falls.control in
        let long : length run ≡ length a + length b = ap length falls.joins ∙ length-append a b in
        call_below valid laws k r there g h right run a b mid falls.joins falls.goes goal (pops r.to g mid) (weight mid h to) fg (fits_pops r.to g mid) (fits mid h to)
        (settled.calls k r there g h right mid to) (pops_below a r.to g mid falls.goes)
        (known b (omega (arith, long, short)) mid h to (record { word = word; full = full; goes = falls.goes_on; reads = reads }))

    in_call : (g h : ℕ) → r.right ≡ g ∷ h ∷ [] → Stays p r.to (g ∷ []) (h ∷ []) run (at_stack control word) → Below s goal (value (k ∷ run))
    in_call g h right stays =
        let P : List ℕ → Type 0 = λ w. Reads edges 0 w to in
        let parts = reads_parts edges 0 stays.word (h ∷ []) to (subst P stays.ends reads) in
        let mid = parts.mid in
        let Q : ℕ → Type 0 = λ m. IsIn (record { from = mid; symbol = h; to = m }) edges in
        let edge : Q to = subst Q parts.reads_on.2 parts.reads_on.1 in
        open_below valid laws k r there g h right run (at_stack control stays.word) stays.goes stays.full goal (weight r.to g mid) fg (fits r.to g mid)
        (settled.stays k r there g h right mid to edge)
        (known run short r.to g mid (record { word = stays.word; full = stays.full; goes = stays.goes; reads = parts.reads }))

    by_right : (left : List ℕ) → r.right ≡ left → Run p (at_stack r.to left) run (at_stack control word) → Below s goal (value (k ∷ run))
    by_right [] right goes =
        let over : run ≡ [] = none_from_nothing p run (at_stack r.to []) (at_stack control word) refl goes in
        let P : List ℕ → Type 0 = λ v. Run p (at_stack r.to []) v (at_stack control word) in
        let same : at_stack r.to [] ≡ at_stack control word = subst P over goes in
        absurd (full (sym (ap (λ (c : Configuration). c.stack) same)))
    by_right (g ∷ []) right goes =
        step_below valid laws k r there g right run goal (weight r.to g to) fg (fits r.to g to) (settled.steps k r there g right to)
        (known run short r.to g to (record { word = word; full = full; goes = goes; reads = reads }))
    by_right (g ∷ h ∷ []) right goes = elim (split p run r.to (g ∷ []) (h ∷ []) (at_stack control word) goes) [
      | inl falls ↦ behind_call g h right falls
      | inr stays ↦ in_call g h right stays
    ]
    by_right (g ∷ h ∷ i ∷ left) right goes =
        let most : length r.right ≤ 2 = few valid laws k r there in
        let long : length r.right ≡ suc (suc (suc (length left))) = ap length right in
        absurd (omega arith)

  below_up_to : (n : ℕ) → BelowUpTo n
  below_up_to n [] short from g to leads =
      let P : List ℕ → Type 0 = λ w. Reads edges 0 w to in
      let stacks : leads.word ≡ g ∷ [] = sym (ap (λ (c : Configuration). c.stack) leads.goes) in
      let same : control ≡ from = sym (ap (λ (c : Configuration). c.control) leads.goes) in
      let reads : Reads edges 0 (g ∷ []) to = subst P stacks leads.reads in
      let Q : ℕ → Type 0 = λ m. IsIn (record { from = 0; symbol = g; to = m }) edges in
      let edge : Q to = subst Q reads.2 reads.1 in
      let T : ℕ → Type 0 = λ c. Below s (weight c g to) s.one in
      subst T same (settled.opens g to edge)
  below_up_to zero (k ∷ run) short from g to leads = absurd (let h : suc (length run) ≤ 0 = short in omega arith)
  below_up_to (suc n) (k ∷ run) short from g to leads =
      let b = begins p from g k run (at_stack control leads.word) leads.goes in
      let r = b.rule in
      let less : suc (length run) ≤ suc n = short in
      let end : Below s (weight r.control r.symbol to) (value (k ∷ run)) =
      by_right n (below_up_to n) k r b.there run (omega (arith, less)) to leads.word leads.full leads.reads r.right refl b.goes in
      let P : ℕ → Type 0 = λ c. Below s (weight c r.symbol to) (value (k ∷ run)) in
      let Q : ℕ → Type 0 = λ h. Below s (weight from h to) (value (k ∷ run)) in
      subst Q b.symbol (subst P b.control end)

  pub enter_below : (run : List ℕ) (from g to : ℕ) → Leads from g to run → Below s (weight from g to) (value run)
  enter_below run from g to leads = below_up_to (length run) run (omega arith) from g to leads
