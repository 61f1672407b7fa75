-- A property of weights that the operations keep holds of the values of runs and of answers.
use Rattle.std.proofs.Common.{◌≡◌, ℕ, Bool, List, [], ◌∷◌, map, refl, sym, subst}
use Rattle.std.specs.Prelude.{Option, None, Some, IfSome, slice_get, unwrap_or}
use Rattle.std.specs.List.{AllByRecursion, cons_option}
use Rattle.semiring_laws.specs.Semiring.{Operations}
use Rattle.semiring_laws.specs.Combination.{combination}
use Rattle.pushdown_rules.specs.declared.rule.Rule.{Rule}
use Rattle.pushdown_rules.specs.Configuration.{Configuration}
use Rattle.pushdown_rules.specs.Pushdown.{Pushdown}
use Rattle.pushdown_rules.specs.RunValue.{Frame, Machine, starting, returned, machine_after, waiting, product, value_from}
use Rattle.pushdown_rules.specs.Values.{rules_of, value_of}
use Rattle.pushdown_rules.specs.Answers.{Answers}

-- A property of weights, and one of return maps, that the operations of a semiring keep.
pub record IsKept {W Map : Type 0} (s : Operations W Map) (P : W → Type 0) (Q : Map → Type 0) : Type 0 where
  pub zero : P s.zero
  pub one : P s.one
  pub plain : Q s.plain
  pub combine : (a b : W) → P a → P b → P (s.combine a b)
  pub extend : (a b : W) → P a → P b → P (s.extend a b)
  pub after : (h : Map) (a : W) → Q h → P a → P (s.after h a)

-- the weight of a rule has the first property, and its return map, if it has one, the second
abbrev pub RuleHas : {S W Map : Type 0} → (W → Type 0) → (Map → Type 0) → Rule S W Map → Type 0
RuleHas P Q r = P r.weight × IfSome r.map Q

module _ {W Map : Type 0} {s : Operations W Map} {P : W → Type 0} {Q : Map → Type 0} (kept : IsKept s P Q) where
  abbrev FrameHas : Frame W Map → Type 0
  FrameHas f = P f.saved × Q f.map

  abbrev MachineHas : Machine W Map → Type 0
  MachineHas m = P m.accumulator × AllByRecursion FrameHas m.frames

  product_has : (fs : List (Frame W Map)) (w : W) → AllByRecursion FrameHas fs → P w → P (product s fs w)
  product_has [] w _ has = has
  product_has (f ∷ fs) w all has = product_has fs (s.extend f.saved w) all.1 (kept.extend f.saved w all.0.0 has)

  returned_has : (w : W) (fs : List (Frame W Map)) → P w → AllByRecursion FrameHas fs → MachineHas (returned s w fs)
  returned_has w [] has _ = (has, tt)
  returned_has w (f ∷ fs) has all = (kept.extend f.saved (s.after f.map w) all.0.0 (kept.after f.map w all.0.1 has), all.1)

  plain_or_has : (map : Option Map) → IfSome map Q → Q (unwrap_or map s.plain)
  plain_or_has None _ = kept.plain
  plain_or_has (Some h) has = has

  waiting_has : (h : Map) (gs : List ℕ) (fs : List (Frame W Map)) → Q h → AllByRecursion FrameHas fs → AllByRecursion FrameHas (waiting s h gs fs)
  waiting_has h [] fs has all = all
  waiting_has h (g ∷ gs) fs has all = ((kept.one, has), waiting_has h gs fs has all)

  step_has : {S : Type 0} (r : Rule S W Map) (right : List ℕ) (m : Machine W Map) → RuleHas P Q r → MachineHas m → MachineHas (machine_after s (record r { right = right }) m)
  step_has r [] m rule has = returned_has (s.extend m.accumulator r.weight) m.frames (kept.extend m.accumulator r.weight has.0 rule.0) has.1
  step_has r (g ∷ []) m rule has = (kept.extend m.accumulator r.weight has.0 rule.0, has.1)
  step_has r (g ∷ h ∷ hs) m rule has =
      let back = plain_or_has r.map rule.1 in
      let fs : List (Frame W Map) = record { saved = m.accumulator; map = unwrap_or r.map s.plain } ∷ m.frames in
      (rule.0, waiting_has (unwrap_or r.map s.plain) hs fs back ((has.0, back), has.1))

  from_has : {S : Type 0} (m : Machine W Map) (rs : List (Rule S W Map)) → MachineHas m → AllByRecursion (RuleHas P Q) rs → P (value_from s m rs)
  from_has m [] has _ = product_has m.frames m.accumulator has.1 has.0
  from_has m (r ∷ rs) has rules = from_has (machine_after s r m) rs (step_has r r.right m rules.0 has) rules.1

  combination_has : (ws : List W) → AllByRecursion P ws → P (combination s ws)
  combination_has [] _ = kept.zero
  combination_has (w ∷ ws) all = kept.combine w (combination s ws) all.0 (combination_has ws all.1)

module _ {S W Map : Type 0} {s : Operations W Map} {P : W → Type 0} {Q : Map → Type 0} (kept : IsKept s P Q) (p : Pushdown S W Map) (rules : (k : ℕ) (r : Rule S W Map) → slice_get p.rules k ≡ Some r → RuleHas P Q r) where
  rule_has : (k : ℕ) (o : Option (Rule S W Map)) → slice_get p.rules k ≡ o → (rs : List (Rule S W Map)) → AllByRecursion (RuleHas P Q) rs → AllByRecursion (RuleHas P Q) (cons_option o rs)
  rule_has k None e rs all = all
  rule_has k (Some r) e rs all = (rules k r e, all)

  rules_have : (run : List ℕ) → AllByRecursion (RuleHas P Q) (rules_of s p run)
  rules_have [] = tt
  rules_have (k ∷ run) = rule_has k (slice_get p.rules k) refl (rules_of s p run) (rules_have run)

  value_has : (run : List ℕ) → P (value_of s p run)
  value_has run = from_has kept (starting s) (rules_of s p run) (kept.one, tt) (rules_have run)

  values_have : (runs : List (List ℕ)) → AllByRecursion P (map (value_of s p) runs)
  values_have [] = tt
  values_have (run ∷ runs) = (value_has run, values_have runs)

  -- what the rules have and the operations keep holds of each answer
  pub answer_has : (from to : Configuration → Bool) (v : W) (runs : List (List ℕ)) → Answers s p from to v runs → P v
  answer_has from to v runs answer = subst P (sym answer.combined) (combination_has kept (map (value_of s p) runs) (values_have runs))
