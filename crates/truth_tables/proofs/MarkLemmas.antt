-- What comes of a mark behind an operand, of any word more, and of the end.
use Rattle.std.proofs.Common.{◌≡◌, ℕ, ◌<◌, ◌≤◌, List, [], ◌∷◌, reverse, length, Option, Some, None, IfSome, refl, sym, ap, ◌∙◌, subst, arith, inl}
use Rattle.std.proofs.lemmas.List.{length-reverse}
use Rattle.std.specs.Prelude.{Result, Ok, Err}
use Rattle.wpds_port.specs.declared.Mark.{Mark}
use Rattle.wpds_port.specs.declared.Mark.TheVariants.{Implies, Differs, Comma, Equal, Not, And, Or, Xor, Open, Close}
use Rattle.wpds_port.specs.declared.Word.{Word}
use Rattle.wpds_port.specs.declared.Word.TheVariants.{Number, Mark as Sign}
use Rattle.truth_tables.specs.Formulas.{Formula}
use Rattle.truth_tables.specs.Grammar.{Operator as OperatorValue, ThenOperator, SameOperator, OtherOperator, OrOperator, XorOperator, AndOperator, least_left, Tree, depth, has_large_table}
use Rattle.truth_tables.specs.Stacks.{operator_of, Pending, AfterOperator, Reading, Wants, Word2, Word3, Number2, Number3, Has, joined, at_comma, at_close, behind_operand, next_reading, alone, at_end}
use Rattle.truth_tables.specs.private.Depths.{least, least_of}
use Rattle.truth_tables.specs.private.Kept.{HasOperand, IsJoined, IsJoining, IsStep, IsOpening, IsBracketed, IsStepping, IsBehind, IsEnd, IsEnding, with_operator}
use Rattle.truth_tables.specs.declared.stop.Stop.{Stop}
use Rattle.truth_tables.specs.declared.stop.Stop.TheVariants.{Form, Excess, Memory}
use Rattle.truth_tables.specs.declared.reader.OpenPart.{OpenPart}
use Rattle.truth_tables.specs.declared.reader.OpenPart.TheVariants.{Operator, First2, First3}
use Rattle.truth_tables.specs.declared.reader.Position.{Position}
use Rattle.truth_tables.specs.declared.reader.Position.TheVariants.{Wanted, Behind2, Behind3, Counted2, Counted3, Behind}
use Rattle.truth_tables.proofs.DepthLemmas.{operator_more, mark_more, end_more}
use Rattle.truth_tables.proofs.ShapeLemmas.{or_false}
use Rattle.truth_tables.proofs.StepLemmas.{opens, first2_opens, first3_opens}

-- ---- a mark behind an operand

-- each reading that follows is as deep at least
abbrev DeepensWith : (List Pending → Tree → Option Reading) → Type 0
DeepensWith next = (ps : List Pending) (e : Tree) → IfSome (next ps e) (λ q. least ps (depth e) ≤ least_of q)

-- what comes where the operand is not joined
stops : (next : List Pending → Tree → Option Reading) (limit level d : ℕ) (old mid now : List OpenPart) (fs ms gs : List (Formula ℕ)) (s : Stop) → DeepensWith next → IsJoining limit level old fs d (Err s) mid ms
    → IsBehind next limit old fs d (Err s) now gs
stops next limit level d old mid now fs ms gs s deepens h names ps e has = go s (h names ps e has) (next ps e) (deepens ps e)
  where
    go : (s : Stop) → IsJoined limit names (joined level ps e) (least ps (depth e)) (Err s) mid ms → (o : Option Reading) → IfSome o (λ q. least ps (depth e) ≤ least_of q)
        → IsStep limit names o (Err s) now gs
    go Form j o m = absurd j
    go Memory j o m = tt
    go Excess j None m = tt
    go Excess j (Some q) m = inl (deep q m)
      where
        deep : (q : Reading) → least ps (depth e) ≤ least_of q → limit < least_of q
        deep q m = omega (arith, j, m)

pub operator_stops : (o : OperatorValue) (limit d : ℕ) (old mid now : List OpenPart) (fs ms gs : List (Formula ℕ)) (s : Stop) → IsJoining limit (least_left o) old fs d (Err s) mid ms
    → IsBehind (with_operator o) limit old fs d (Err s) now gs
operator_stops o limit d old mid now fs ms gs s h = stops (with_operator o) limit (least_left o) d old mid now fs ms gs s (operator_more o) h

pub operator_opens : (o : OperatorValue) (limit d more : ℕ) (old mid now : List OpenPart) (fs ms gs : List (Formula ℕ)) (result : Result Position Stop) → IsJoining limit (least_left o) old fs d (Ok more) mid ms
    → gs ≡ ms → IsOpening limit mid (Operator o more) result now → IsBehind (with_operator o) limit old fs d result now gs
operator_opens o limit d more old mid now fs ms gs result h same i names ps e k =
    let has = h names ps e k in
    let r = joined (least_left o) ps e in
    opens limit names mid now ms gs (AfterOperator o r.1) r.0 result same has.opened has.built has.small (subst (λ x. IsOpening limit mid (Operator o x) result now) has.depth_is i)

pub mark_stops : (m : Mark) (limit level d : ℕ) (old mid now : List OpenPart) (fs ms gs : List (Formula ℕ)) (s : Stop) → IsJoining limit level old fs d (Err s) mid ms
    → IsBehind (behind_operand m) limit old fs d (Err s) now gs
mark_stops m limit level d old mid now fs ms gs s h = stops (behind_operand m) limit level d old mid now fs ms gs s (mark_more m) h

pub mark_comma : (limit d more : ℕ) (old mid now : List OpenPart) (fs ms gs : List (Formula ℕ)) (result : Result Position Stop) → IsJoining limit 1 old fs d (Ok more) mid ms → IsBehind at_comma limit mid ms more result now gs
    → IsBehind (behind_operand Comma) limit old fs d result now gs
mark_comma limit d more old mid now fs ms gs result h i names ps e k = let r = joined 1 ps e in i names r.0 r.1 (h names ps e k)

pub mark_close : (limit d more : ℕ) (old mid now : List OpenPart) (fs ms gs : List (Formula ℕ)) (result : Result Position Stop) → IsJoining limit 1 old fs d (Ok more) mid ms → IsBehind at_close limit mid ms more result now gs
    → IsBehind (behind_operand Close) limit old fs d result now gs
mark_close limit d more old mid now fs ms gs result h i names ps e k = let r = joined 1 ps e in i names r.0 r.1 (h names ps e k)

pub mark_operator : (m : Mark) (o : OperatorValue) (limit d : ℕ) (old now : List OpenPart) (fs gs : List (Formula ℕ)) (result : Result Position Stop) → operator_of m ≡ Some o → IsBehind (with_operator o) limit old fs d result now gs
    → IsBehind (behind_operand m) limit old fs d result now gs
mark_operator m o limit d old now fs gs result is h names ps e k = subst (λ x. IsStep limit names x result now gs) (sym (go m is)) (h names ps e k)
  where
    some_same : (q : OperatorValue) → Some q ≡ Some o → q ≡ o
    some_same q h = cc

    made : OperatorValue → Option Reading
    made q = with_operator q ps e

    go : (m : Mark) → operator_of m ≡ Some o → behind_operand m ps e ≡ with_operator o ps e
    go Implies is = ap made (some_same ThenOperator is)
    go Differs is = ap made (some_same OtherOperator is)
    go Equal is = ap made (some_same SameOperator is)
    go And is = ap made (some_same AndOperator is)
    go Or is = ap made (some_same OrOperator is)
    go Xor is = ap made (some_same XorOperator is)
    go _ is = cc

-- a mark that is no operator, no comma and no closing bracket
abbrev pub IsForeign : Mark → Type 0
IsForeign Comma = ⊥
IsForeign Close = ⊥
IsForeign m = operator_of m ≡ None

pub mark_other : (m : Mark) (limit d : ℕ) (old now : List OpenPart) (fs gs : List (Formula ℕ)) → IsForeign m → IsBehind (behind_operand m) limit old fs d (Err Form) now gs
mark_other m limit d old now fs gs i names ps e k = go m i
  where
    go : (m : Mark) → IsForeign m → behind_operand m ps e ≡ None
    go Implies i = cc
    go Differs i = cc
    go Equal i = cc
    go And i = cc
    go Or i = cc
    go Xor i = cc
    go Comma i = absurd i
    go Close i = absurd i
    go _ i = refl

-- ---- a word more

pub mark_steps : (m : Mark) (limit d place : ℕ) (old now : List OpenPart) (fs gs : List (Formula ℕ)) (result : Result Position Stop) → IsBehind (behind_operand m) limit old fs d result now gs
    → IsStepping limit (Behind d) (Sign m) place old fs result now gs
mark_steps m limit d place old now fs gs result h names r at told =
    subst (λ x. IsStep limit names (next_reading x (Sign m)) result now gs) (sym at.2) (h names at.0 at.1 at.3)

-- a mark that begins no operand
abbrev pub IsNoStart : Mark → Type 0
IsNoStart Not = ⊥
IsNoStart Open = ⊥
IsNoStart m = Unit {0}

pub no_operand : (m : Mark) (limit place : ℕ) (old now : List OpenPart) (fs gs : List (Formula ℕ)) → IsNoStart m → IsStepping limit Wanted (Sign m) place old fs (Err Form) now gs
no_operand m limit place old now fs gs i names r at told = ap (λ x. next_reading x (Sign m)) at.1 ∙ go m i
  where
    go : (m : Mark) → IsNoStart m → next_reading (Wants at.0) (Sign m) ≡ None
    go Not i = absurd i
    go Open i = absurd i
    go _ i = refl

-- no opening bracket
abbrev pub IsNoBracket : Mark → Type 0
IsNoBracket Open = ⊥
IsNoBracket m = Unit {0}

pub bracket_so : (m : Mark) (p : OpenPart) (limit : ℕ) (old now : List OpenPart) (result : Result Position Stop) → m ≡ Open → IsOpening limit old p result now → IsBracketed limit old p m result now
bracket_so m p limit old now result is h = subst (λ x. IsBracketed limit old p x result now) (sym is) h

pub no_bracket : (m : Mark) (p : OpenPart) (limit : ℕ) (old now : List OpenPart) → IsNoBracket m → IsBracketed limit old p m (Err Form) now
no_bracket Open p limit old now i = absurd i
no_bracket _ p limit old now i = refl

pub first2_steps : (m : Mark) (t limit place : ℕ) (old now : List OpenPart) (fs gs : List (Formula ℕ)) (result : Result Position Stop) → gs ≡ fs → IsBracketed limit old (First2 t) m result now
    → IsStepping limit (Counted2 t) (Sign m) place old fs result now gs
first2_steps m t limit place old now fs gs result same h names r at told = go m h
  where
    go : (m : Mark) → IsBracketed limit old (First2 t) m result now → IsStep limit names (next_reading r (Sign m)) result now gs
    go Open h = first2_opens limit place old now fs gs result same t h names r at (λ no. cc)
    go m h = subst (λ x. IsStep limit names (next_reading r (Sign m)) x now gs) (sym h) (ap (λ x. next_reading x (Sign m)) at.2)

pub first3_steps : (m : Mark) (t limit place : ℕ) (old now : List OpenPart) (fs gs : List (Formula ℕ)) (result : Result Position Stop) → gs ≡ fs → IsBracketed limit old (First3 t) m result now
    → IsStepping limit (Counted3 t) (Sign m) place old fs result now gs
first3_steps m t limit place old now fs gs result same h names r at told = go m h
  where
    go : (m : Mark) → IsBracketed limit old (First3 t) m result now → IsStep limit names (next_reading r (Sign m)) result now gs
    go Open h = first3_opens limit place old now fs gs result same t h names r at (λ no. cc)
    go m h = subst (λ x. IsStep limit names (next_reading r (Sign m)) x now gs) (sym h) (ap (λ x. next_reading x (Sign m)) at.2)

-- a word that may not stand there, where no operand is wanted
abbrev pub IsMisplaced : Position → Word → Type 0
IsMisplaced Wanted w = ⊥
IsMisplaced Behind2 (Number n) = ⊥
IsMisplaced Behind3 (Number n) = ⊥
IsMisplaced (Counted2 t) (Sign m) = ⊥
IsMisplaced (Counted3 t) (Sign m) = ⊥
IsMisplaced (Behind d) (Sign m) = ⊥
IsMisplaced p w = Unit {0}

pub no_step : (p : Position) (w : Word) (limit place : ℕ) (old now : List OpenPart) (fs gs : List (Formula ℕ)) → IsMisplaced p w → IsStepping limit p w place old fs (Err Form) now gs
no_step Wanted w limit place old now fs gs i names r at told = absurd i
no_step Behind2 w limit place old now fs gs i names r at told = ap (λ x. next_reading x w) at.1 ∙ go w i
  where
    go : (w : Word) → IsMisplaced Behind2 w → next_reading (Word2 at.0) w ≡ None
    go (Number n) i = absurd i
    go _ i = refl
no_step Behind3 w limit place old now fs gs i names r at told = ap (λ x. next_reading x w) at.1 ∙ go w i
  where
    go : (w : Word) → IsMisplaced Behind3 w → next_reading (Word3 at.0) w ≡ None
    go (Number n) i = absurd i
    go _ i = refl
no_step (Counted2 t) w limit place old now fs gs i names r at told = ap (λ x. next_reading x w) at.2 ∙ go w i
  where
    go : (w : Word) → IsMisplaced (Counted2 t) w → next_reading (Number2 at.0 at.1) w ≡ None
    go (Sign m) i = absurd i
    go _ i = refl
no_step (Counted3 t) w limit place old now fs gs i names r at told = ap (λ x. next_reading x w) at.2 ∙ go w i
  where
    go : (w : Word) → IsMisplaced (Counted3 t) w → next_reading (Number3 at.0 at.1) w ≡ None
    go (Sign m) i = absurd i
    go _ i = refl
no_step (Behind d) w limit place old now fs gs i names r at told = ap (λ x. next_reading x w) at.2 ∙ go w i
  where
    go : (w : Word) → IsMisplaced (Behind d) w → next_reading (Has at.0 at.1) w ≡ None
    go (Sign m) i = absurd i
    go _ i = refl

-- ---- the end

-- no operand stands before the end
abbrev pub IsNoEnd : Position → Type 0
IsNoEnd (Behind d) = ⊥
IsNoEnd p = Unit {0}

pub ends_elsewhere : (p : Position) (limit : ℕ) (old : List OpenPart) (fs : List (Formula ℕ)) → IsNoEnd p → IsEnding limit p old fs (Err Form)
ends_elsewhere Wanted limit old fs i names r at = ap at_end at.1
ends_elsewhere Behind2 limit old fs i names r at = ap at_end at.1
ends_elsewhere Behind3 limit old fs i names r at = ap at_end at.1
ends_elsewhere (Counted2 t) limit old fs i names r at = ap at_end at.2
ends_elsewhere (Counted3 t) limit old fs i names r at = ap at_end at.2
ends_elsewhere (Behind d) limit old fs i names r at = absurd i

pub end_stops : (limit d : ℕ) (old mid : List OpenPart) (fs ms : List (Formula ℕ)) (s : Stop) → IsJoining limit 1 old fs d (Err s) mid ms → IsEnding limit (Behind d) old fs (Err s)
end_stops limit d old mid fs ms s h names r at = subst (λ x. IsEnd limit names (at_end x) (Err s)) (sym at.2) (go s (h names at.0 at.1 at.3) (at_end (Has at.0 at.1)) (end_more (Has at.0 at.1)))
  where
    go : (s : Stop) → IsJoined limit names (joined 1 at.0 at.1) (least at.0 (depth at.1)) (Err s) mid ms → (o : Option Tree) → IfSome o (λ t. least at.0 (depth at.1) ≤ depth t) → IsEnd limit names o (Err s)
    go Form j o m = absurd j
    go Memory j o m = tt
    go Excess j None m = tt
    go Excess j (Some t) m = deep t m
      where
        deep : (t : Tree) → least at.0 (depth at.1) ≤ depth t → limit < depth t
        deep t m = omega (arith, j, m)

pub end_empty : (limit d more : ℕ) (old mid : List OpenPart) (fs ms : List (Formula ℕ)) → IsJoining limit 1 old fs d (Ok more) mid ms → mid ≡ [] → IsEnding limit (Behind d) old fs (Ok ms)
end_empty limit d more old mid fs ms h none names r at =
    subst (λ x. IsEnd limit names (at_end x) (Ok ms)) (sym at.2) (go (joined 1 at.0 at.1).0 (joined 1 at.0 at.1).1 (h names at.0 at.1 at.3))
  where
    go : (qs : List Pending) (e : Tree) → HasOperand limit names qs e mid ms more → IsEnd limit names (alone qs e) (Ok ms)
    go [] e has = (e, refl, or_false (has_large_table e) ∙ has.small, subst (λ x. x ≤ limit) has.depth_is has.shallow, has.built)
    go (q ∷ qs) e has = let long = has.opened ∙ ap reverse none in cc

pub end_open : (limit d more : ℕ) (old mid : List OpenPart) (fs ms : List (Formula ℕ)) → IsJoining limit 1 old fs d (Ok more) mid ms → 0 < length mid → IsEnding limit (Behind d) old fs (Err Form)
end_open limit d more old mid fs ms h some names r at =
    ap at_end at.2 ∙ go (joined 1 at.0 at.1).0 (joined 1 at.0 at.1).1 (h names at.0 at.1 at.3)
  where
    go : (qs : List Pending) (e : Tree) → HasOperand limit names qs e mid ms more → alone qs e ≡ None
    go [] e has = let none : 0 ≡ length mid = ap length has.opened ∙ length-reverse mid in absurd (omega (arith, none, some))
    go (q ∷ qs) e has = refl
