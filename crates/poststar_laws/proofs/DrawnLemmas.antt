-- What a rule draws, by kind.
use Rattle.std.proofs.Common.{◌≡◌, ℕ, true, false, List, [], ◌∷◌, refl, sym, ap, ◌∙◌}
use Rattle.std.specs.Prelude.{Option, None, Some, is_none, ◌&&◌}
use Rattle.std.proofs.lemmas.Bool.{and_parts, cond_both, cond-true}
use Rattle.std.proofs.lemmas.Option.{same_Some}
use Rattle.pushdown_rules.specs.declared.rule.Rule.{Rule}
use Rattle.direction_parts.specs.Places.{arrow}
use Rattle.direction_parts.specs.Passes.{one_symbol, two_symbols}
use Rattle.direction_parts.proofs.CallerLemmas.{one_symbol_is, two_symbols_are}
use Rattle.poststar_laws.specs.declared.drawn.Drawn.{Drawn}
use Rattle.poststar_laws.specs.Rows.{drawn_to, is_pop, skip, step_drawn, return_drawn, pop_drawn, enter_drawn, leave_drawn}

pub record IsStepDrawn {S W Map : Type 0} (r : Rule S W Map) (q : ℕ) (d : Drawn) : Type 0 where
  pub top : ℕ
  pub right : r.right ≡ top ∷ []
  pub is : record { frame = None; goal = arrow r.to top q } ≡ d

pub record IsReturnDrawn {S W Map : Type 0} (frame : Option ℕ) (r : Rule S W Map) (q : ℕ) (d : Drawn) : Type 0 where
  pub number : ℕ
  pub frame_is : frame ≡ Some number
  pub right : r.right ≡ []
  pub is : record { frame = Some number; goal = skip r.to q } ≡ d

pub record IsPopDrawn {S W Map : Type 0} (frame : Option ℕ) (r : Rule S W Map) (q : ℕ) (d : Drawn) : Type 0 where
  pub frame_is : frame ≡ None
  pub right : r.right ≡ []
  pub is : record { frame = None; goal = skip r.to q } ≡ d

pub record IsEnterDrawn {S W Map : Type 0} (middle : ℕ) (r : Rule S W Map) (d : Drawn) : Type 0 where
  pub callee : ℕ
  pub waits : ℕ
  pub right : r.right ≡ callee ∷ waits ∷ []
  pub is : record { frame = None; goal = arrow r.to callee middle } ≡ d

pub record IsLeaveDrawn {S W Map : Type 0} (middle : ℕ) (r : Rule S W Map) (q : ℕ) (d : Drawn) : Type 0 where
  pub callee : ℕ
  pub waits : ℕ
  pub right : r.right ≡ callee ∷ waits ∷ []
  pub is : record { frame = None; goal = arrow middle waits q } ≡ d

module _ {S W Map : Type 0} (r : Rule S W Map) where
  pop_is : (word : List ℕ) → r.right ≡ word → is_pop r ≡ true → word ≡ []
  pop_is [] e h = refl
  pop_is (g ∷ word) e h = let over : false ≡ true = sym (ap (λ w. elim w [ [] ↦ true | g ∷ gs ↦ false ]) e) ∙ h in cc

  pub is_pop_there : r.right ≡ [] → is_pop r ≡ true
  is_pop_there e = ap (λ w. elim w [ [] ↦ true | g ∷ gs ↦ false ]) e

  step_by : (q : ℕ) (d : Drawn) (o : Option ℕ) → one_symbol r.right ≡ o → (elim o [ None ↦ None | Some g ↦ drawn_to (arrow r.to g q) ]) ≡ Some d → IsStepDrawn r q d
  step_by q d None e h = cc
  step_by q d (Some g) e h = record { top = g; right = one_symbol_is r.right g e; is = same_Some _ d h }

  pub step_says : (q : ℕ) (d : Drawn) → step_drawn r q ≡ Some d → IsStepDrawn r q d
  step_says q d h = step_by q d (one_symbol r.right) refl h

  pub step_there : (g : ℕ) → r.right ≡ g ∷ [] → (q : ℕ) → step_drawn r q ≡ drawn_to (arrow r.to g q)
  step_there g e q = ap (λ w. elim (one_symbol w) [ None ↦ None | Some h ↦ drawn_to (arrow r.to h q) ]) e

  pub return_says : (frame : Option ℕ) (q : ℕ) (d : Drawn) → return_drawn frame r q ≡ Some d → IsReturnDrawn frame r q d
  return_says None q d h = cc
  return_says (Some m) q d h =
      let made : Drawn = record { frame = Some m; goal = skip r.to q } in
      let P : Option Drawn → Type 0 = λ o. o ≡ Some d → IsReturnDrawn (Some m) r q d in
      cond_both (is_pop r) (Some made) None P
      (λ pop e. record { number = m; frame_is = refl; right = pop_is r.right refl pop; is = same_Some made d e })
      (λ _ e. cc) h

  pub return_there : (m : ℕ) → r.right ≡ [] → (q : ℕ) → return_drawn (Some m) r q ≡ Some (record { frame = Some m; goal = skip r.to q })
  return_there m e q = cond-true (is_pop r) (Some (record { frame = Some m; goal = skip r.to q })) None (is_pop_there e)

  absent : (o : Option ℕ) → is_none o ≡ true → o ≡ None
  absent None h = refl
  absent (Some k) h = cc

  pub pop_says : (frame : Option ℕ) (q : ℕ) (d : Drawn) → pop_drawn frame r q ≡ Some d → IsPopDrawn frame r q d
  pop_says frame q d h =
      let made : Drawn = record { frame = None; goal = skip r.to q } in
      let P : Option Drawn → Type 0 = λ o. o ≡ Some d → IsPopDrawn frame r q d in
      cond_both (is_none frame && is_pop r) (Some made) None P
      (λ test e.
      let parts = and_parts (is_none frame) (is_pop r) test in
      record { frame_is = absent frame parts.0; right = pop_is r.right refl parts.1; is = same_Some made d e })
      (λ _ e. cc) h

  pub pop_there : r.right ≡ [] → (q : ℕ) → pop_drawn None r q ≡ drawn_to (skip r.to q)
  pop_there e q = cond-true (is_pop r) (drawn_to (skip r.to q)) None (is_pop_there e)

  enter_by : (middle : ℕ) (d : Drawn) (o : Option (ℕ × ℕ)) → two_symbols r.right ≡ o → (elim o [ None ↦ None | Some w ↦ drawn_to (arrow r.to w.0 middle) ]) ≡ Some d → IsEnterDrawn middle r d
  enter_by middle d None e h = cc
  enter_by middle d (Some w) e h = record { callee = w.0; waits = w.1; right = two_symbols_are r.right w e; is = same_Some _ d h }

  pub enter_says : (middle : ℕ) (d : Drawn) → enter_drawn middle r ≡ Some d → IsEnterDrawn middle r d
  enter_says middle d h = enter_by middle d (two_symbols r.right) refl h

  pub enter_there : (middle g i : ℕ) → r.right ≡ g ∷ i ∷ [] → enter_drawn middle r ≡ drawn_to (arrow r.to g middle)
  enter_there middle g i e = ap (λ w. elim (two_symbols w) [ None ↦ None | Some v ↦ drawn_to (arrow r.to v.0 middle) ]) e

  leave_by : (middle q : ℕ) (d : Drawn) (o : Option (ℕ × ℕ)) → two_symbols r.right ≡ o → (elim o [ None ↦ None | Some w ↦ drawn_to (arrow middle w.1 q) ]) ≡ Some d → IsLeaveDrawn middle r q d
  leave_by middle q d None e h = cc
  leave_by middle q d (Some w) e h = record { callee = w.0; waits = w.1; right = two_symbols_are r.right w e; is = same_Some _ d h }

  pub leave_says : (middle q : ℕ) (d : Drawn) → leave_drawn middle r q ≡ Some d → IsLeaveDrawn middle r q d
  leave_says middle q d h = leave_by middle q d (two_symbols r.right) refl h

  pub leave_there : (middle g i : ℕ) → r.right ≡ g ∷ i ∷ [] → (q : ℕ) → leave_drawn middle r q ≡ drawn_to (arrow middle i q)
  leave_there middle g i e q = ap (λ w. elim (two_symbols w) [ None ↦ None | Some v ↦ drawn_to (arrow middle v.1 q) ]) e
