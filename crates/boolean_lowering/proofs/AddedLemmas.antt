-- Rules that were added as they are planned.
use Rattle.std.proofs.Common.{◌≡◌, ℕ, suc, ◌+◌, ◌<◌, Bool, true, false, ◌||◌, ◌&&◌, not, cond, List, [], ◌∷◌, ◌++◌, length, refl, sym, ap, ◌∙◌, subst, append_assoc}
use Rattle.std.specs.Prelude.{Option, None, Some, is_some, IsSome, nat_eq, nat_le, nat_lt}
use Rattle.std.specs.List.{list_any}
use Rattle.std.proofs.lemmas.Bool.{lt-leb, le-ltb, or_from}
use Rattle.std.proofs.lemmas.List.{append-nil}
use Rattle.std.proofs.Math.ListN.{length-append}
use Rattle.wpds_base.specs.Limits.{most_rules}
use Rattle.semiring_laws.specs.Semiring.{Fits, FitsMap}
use Rattle.pushdown_rules.specs.declared.rule.Rule.{Rule}
use Rattle.pushdown_rules.specs.Pushdown.{Pushdown}
use Rattle.pushdown_rules.specs.Fault.{rule_fault}
use Rattle.relation_laws.specs.Building.{Parts}
use Rattle.relation_laws.specs.Relations.{leads}
use Rattle.relation_weights.specs.declared.rel_map.RelMap.{RelMap}
use Rattle.relation_weights.specs.declared.rel_map.Slot.{Slot}
use Rattle.relation_weights.specs.Relations.{relation_operations}
use Rattle.boolean_programs.specs.declared.statement.Choice.{Choice}
use Rattle.boolean_programs.specs.Lines.{Instruction, first_line}
use Rattle.boolean_programs.specs.Programs.{Procedure, Program}
use Rattle.boolean_machine.specs.Machine.{at_line}
use Rattle.boolean_programs.specs.Lists.{Each}
use Rattle.lowering_laws.specs.Lowering.{Effect, Planned, variables, symbols, symbol, step_rule, call_rule, return_rule, map_slot, IsMap}
use Rattle.lowering_laws.specs.Plans.{IsWithin, AreLowered}
use Rattle.lowering_laws.specs.Weights.{slots_of}
use Rattle.boolean_lowering.specs.private.Effects.{HasEffect}
use Rattle.boolean_lowering.specs.private.Made.{IsFor, AreAdded}

-- ---- rules that are not refused

no_fault : {Fault : Type 0} (a b c d e : Bool) (u v w x y : Fault) → a ≡ false → b ≡ false → c ≡ false → d ≡ false → e ≡ false
    → cond a (Some u) (cond b (Some v) (cond c (Some w) (cond d (Some x) (cond e (Some y) None)))) ≡ None
no_fault false false false false false u v w x y fa fb fc fd fe = refl
no_fault true b c d e u v w x y fa fb fc fd fe = cc
no_fault false true c d e u v w x y fa fb fc fd fe = cc
no_fault false false true d e u v w x y fa fb fc fd fe = cc
no_fault false false false true e u v w x y fa fb fc fd fe = cc
no_fault false false false false true u v w x y fa fb fc fd fe = cc

none_above : (n : ℕ) (gs : List ℕ) → Each (λ g. g < n) gs → list_any (λ g. nat_le n g) gs ≡ false
none_above n [] small = refl
none_above n (g ∷ gs) small = or_from (nat_le n g) (list_any (λ h. nat_le n h) gs) (lt-leb n g (small 0 g refl)) (none_above n gs (λ k h e. small (suc k) h e))

no_map : (o : Option (ℕ → Slot)) (n : ℕ) → (IsSome o → n ≡ 2) → is_some o && not (nat_eq n 2) ≡ false
no_map None n two = refl
no_map (Some h) n two = by_length n (two refl)
  where
    by_length : (n : ℕ) → n ≡ 2 → not (nat_eq n 2) ≡ false
    by_length n e = ap (λ m. not (nat_eq m 2)) e

-- a planned rule is not refused
pub accepted : (p : Program) (s : Pushdown ℕ Parts RelMap) → IsFor p s → (t : Planned) → IsWithin p t → length s.rules < most_rules → rule_fault s 0 t.head 0 t.right (is_some t.map) ≡ None
accepted p s is t within room =
    no_fault (nat_le s.controls 0 || nat_le s.controls 0) (nat_le s.symbols t.head || list_any (λ g. nat_le s.symbols g) t.right) (nat_lt 2 (length t.right)) (is_some t.map && not (nat_eq (length t.right) 2)) (nat_le most_rules (length s.rules)) _ _ _ _ _
    (ap (λ n. nat_le n 0 || nat_le n 0) is.controls)
    (ap (λ n. nat_le n t.head || list_any (λ g. nat_le n g) t.right) is.symbols_are ∙ or_from (nat_le (symbols p) t.head) (list_any (λ g. nat_le (symbols p) g) t.right) (lt-leb (symbols p) t.head within.head) (none_above (symbols p) t.right within.right))
    (le-ltb 2 (length t.right) within.short)
    (no_map t.map (length t.right) within.pushes.0)
    (lt-leb most_rules (length s.rules) room)

-- ---- one rule, and rules behind others

abbrev rule_of : Planned → Parts → Option RelMap → Rule ℕ Parts RelMap
rule_of t w map = record { control = 0; symbol = t.head; to = 0; right = t.right; weight = w; map = map }

-- a rule with a planned weight and a planned map is as planned
pub one_added : (p : Program) (old new : Pushdown ℕ Parts RelMap) (t : Planned) (w : Parts) (map : Option RelMap) → HasEffect (variables p) w t.effect → IsMap (variables p) slots_of map t.map
    → new ≡ record old { rules = old.rules ++ rule_of t w map ∷ [] } → AreAdded p old new (t ∷ [])
one_added p old new t w map effect is added = record {
  rules = rule_of t w map ∷ [];
  added = added;
  lowered = (record { control = refl; to = refl; symbol = refl; right = refl; weight = effect.means; map = is }, tt);
}

module _ (p : Program) where
  pub none_added : (s : Pushdown ℕ Parts RelMap) → AreAdded p s s []
  none_added s = record { rules = []; added = ap (λ rs. record s { rules = rs }) (sym (append-nil s.rules)); lowered = tt }

  abbrev Are : List (Rule ℕ Parts RelMap) → List Planned → Type 0
  Are = AreLowered (variables p) leads slots_of

  lowered_behind : (rs qs : List (Rule ℕ Parts RelMap)) (ts us : List Planned) → Are rs ts → Are qs us → Are (rs ++ qs) (ts ++ us)
  lowered_behind [] qs [] us are later = later
  lowered_behind [] qs (t ∷ ts) us are later = absurd are
  lowered_behind (r ∷ rs) qs [] us are later = absurd are
  lowered_behind (r ∷ rs) qs (t ∷ ts) us are later = (are.0, lowered_behind rs qs ts us are.1 later)

  pub added_behind : (a b c : Pushdown ℕ Parts RelMap) (ts us : List Planned) → AreAdded p a b ts → AreAdded p b c us → AreAdded p a c (ts ++ us)
  added_behind a b c ts us first later = record {
    rules = first.rules ++ later.rules;
    added = later.added ∙ ap (λ (s : Pushdown ℕ Parts RelMap). record s { rules = s.rules ++ later.rules }) first.added ∙ ap (λ rs. record a { rules = rs }) (append_assoc a.rules first.rules later.rules);
    lowered = lowered_behind first.rules later.rules ts us first.lowered later.lowered;
  }

  as_many : (rs : List (Rule ℕ Parts RelMap)) (ts : List Planned) → Are rs ts → length rs ≡ length ts
  as_many [] [] are = refl
  as_many [] (t ∷ ts) are = absurd are
  as_many (r ∷ rs) [] are = absurd are
  as_many (r ∷ rs) (t ∷ ts) are = ap suc (as_many rs ts are.1)

  pub length_added : (a b : Pushdown ℕ Parts RelMap) (ts : List Planned) → AreAdded p a b ts → length b.rules ≡ length a.rules + length ts
  length_added a b ts are =
      ap (λ (s : Pushdown ℕ Parts RelMap). length s.rules) are.added ∙ length-append a.rules are.rules ∙ ap (λ n. length a.rules + n) (as_many are.rules ts are.lowered)

  pub for_added : (a b : Pushdown ℕ Parts RelMap) (ts : List Planned) → AreAdded p a b ts → IsFor p a → IsFor p b
  for_added a b ts are is = record {
    semiring = ap (λ (s : Pushdown ℕ Parts RelMap). s.semiring) are.added ∙ is.semiring;
    controls = ap (λ (s : Pushdown ℕ Parts RelMap). s.controls) are.added ∙ is.controls;
    symbols_are = ap (λ (s : Pushdown ℕ Parts RelMap). s.symbols) are.added ∙ is.symbols_are;
  }

-- ---- steps, calls and returns

module _ (p : Program) (old : Pushdown ℕ Parts RelMap) (is : IsFor p old) where
  -- a weight of the program's relations is one of the system
  pub effect_fits : (w : Parts) (effect : Effect) → HasEffect (variables p) w effect → Fits (relation_operations old.semiring) w
  effect_fits w effect has = subst (λ k. Fits (relation_operations k) w) (sym is.semiring) has.fits

  pub map_fits : (h : RelMap) → FitsMap (relation_operations (variables p)) h → FitsMap (relation_operations old.semiring) h
  map_fits h fits = subst (λ k. FitsMap (relation_operations k) h) (sym is.semiring) fits

  module _ (head to g : ℕ) (at : to ≡ g) (effect : Effect) where
    pub step_accepted : IsWithin p (step_rule head g effect) → length old.rules < most_rules → rule_fault old 0 head 0 (to ∷ []) false ≡ None
    step_accepted within room = subst (λ n. rule_fault old 0 head 0 (n ∷ []) false ≡ None) (sym at) (accepted p old is (step_rule head g effect) within room)

    pub step_added : (w : Parts) (new : Pushdown ℕ Parts RelMap) → HasEffect (variables p) w effect
        → new ≡ record old { rules = old.rules ++ record { control = 0; symbol = head; to = 0; right = to ∷ []; weight = w; map = None } ∷ [] } → AreAdded p old new (step_rule head g effect ∷ [])
    step_added w new has e =
        one_added p old new (step_rule head g effect) w None has tt
        (e ∙ ap (λ n. record old { rules = old.rules ++ record { control = 0; symbol = head; to = 0; right = n ∷ []; weight = w; map = None } ∷ [] }) at)

  module _ (head to back : ℕ) (i : Instruction) (targets : List ℕ) (q : Procedure) (arguments : List Choice) (at : to ≡ symbol p (at_line (first_line q.body))) (at_back : back ≡ symbol p (at_line i.next)) where
    abbrev call : Planned
    call = call_rule p head i targets q arguments

    pub call_accepted : IsWithin p call → length old.rules < most_rules → rule_fault old 0 head 0 (to ∷ back ∷ []) true ≡ None
    call_accepted within room =
        subst (λ n. rule_fault old 0 head 0 (n ∷ back ∷ []) true ≡ None) (sym at)
        (subst (λ n. rule_fault old 0 head 0 (symbol p (at_line (first_line q.body)) ∷ n ∷ []) true ≡ None) (sym at_back) (accepted p old is call within room))

    pub call_added : (w : Parts) (h : RelMap) (new : Pushdown ℕ Parts RelMap) → HasEffect (variables p) w call.effect → ((v : ℕ) → v < variables p → slots_of h v ≡ map_slot p targets v)
        → new ≡ record old { rules = old.rules ++ record { control = 0; symbol = head; to = 0; right = to ∷ back ∷ []; weight = w; map = Some h } ∷ [] } → AreAdded p old new (call ∷ [])
    call_added w h new has slots e =
        one_added p old new call w (Some h) has slots
        (e
        ∙ ap (λ n. record old { rules = old.rules ++ record { control = 0; symbol = head; to = 0; right = n ∷ back ∷ []; weight = w; map = Some h } ∷ [] }) at
        ∙ ap (λ n. record old { rules = old.rules ++ record { control = 0; symbol = head; to = 0; right = symbol p (at_line (first_line q.body)) ∷ n ∷ []; weight = w; map = Some h } ∷ [] }) at_back)

  module _ (head : ℕ) (values : List Choice) where
    pub return_accepted : IsWithin p (return_rule p head values) → length old.rules < most_rules → rule_fault old 0 head 0 [] false ≡ None
    return_accepted within room = accepted p old is (return_rule p head values) within room

    pub return_added : (w : Parts) (new : Pushdown ℕ Parts RelMap) → HasEffect (variables p) w (return_rule p head values).effect
        → new ≡ record old { rules = old.rules ++ record { control = 0; symbol = head; to = 0; right = []; weight = w; map = None } ∷ [] } → AreAdded p old new (return_rule p head values ∷ [])
    return_added w new has e = one_added p old new (return_rule p head values) w None has tt e
