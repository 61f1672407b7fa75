-- The shape of a reading, a word more at a time, tells whether words are an expression and whether one of its tables is too large.
use Rattle.std.proofs.Common.{◌≡◌, ℕ, Bool, true, false, ◌||◌, cond, List, [], ◌∷◌, reverse, Option, Some, None, option_map, refl, sym, ap, ap₂, ◌∙◌}
use Rattle.std.specs.Prelude.{nat_le, nat_lt, codes, bytes_eq}
use Rattle.wpds_base.specs.Limits.{most_table2, most_table3}
use Rattle.wpds_port.specs.declared.Mark.{Mark}
use Rattle.wpds_port.specs.declared.Mark.TheVariants.{Implies, Differs, Comma, Equal, Not, And, Or, Xor, Open, Close}
use Rattle.wpds_port.specs.declared.Word.{Word}
use Rattle.wpds_port.specs.declared.Word.TheVariants.{Name, Number, Mark as Sign}
use Rattle.truth_tables.specs.Grammar.{Operator, ThenOperator, SameOperator, OtherOperator, OrOperator, XorOperator, AndOperator, operator_level, least_left, Tree, Constant, Variable, Inverse, Two, number_of, has_large_table}
use Rattle.truth_tables.specs.Stacks.{constant_of, Pending, AfterNot, AfterOperator, InBracket, First2, Second2, First3, Second3, Third3, Reading, Wants, Word2, Word3, Number2, Number3, Has, joined, after_operator, at_comma, at_close, behind_operand, at_name, next_reading, alone, at_end, tree_from, tree_of}
use Rattle.truth_tables.specs.declared.shape.OpenShape.{OpenShape}
use Rattle.truth_tables.specs.declared.shape.OpenShape.TheVariants.{Bracket, First2 as FirstOf2, First3 as FirstOf3}
use Rattle.truth_tables.specs.declared.shape.Place.{Place}
use Rattle.truth_tables.specs.declared.shape.Place.TheVariants.{Wanted, Behind2, Behind3, Counted2, Counted3, Behind}
use Rattle.truth_tables.specs.private.Shapes.{Shape, shape_name, shape_number, shape_comma, shape_close, shape_mark, next_shape, large_at, is_whole, open_shapes, shape_of, has_large, large_in, shape_now}

-- ---- what of a reading its shape keeps

abbrev pub Seen : Type 0
Seen = Shape × Bool

abbrev pub seen : Reading → Seen
seen r = (shape_of r, large_in r)

-- the same with a table's number that may be too large
abbrev pub with_large : Bool → Option Shape → Option Seen
with_large large o = option_map (λ s. (s, large)) o

-- ---- what is too large stays so, however it is joined

pub swap : (a b p : Bool) → (a || b) || p ≡ b || (a || p)
swap true true p = refl
swap true false p = refl
swap false true p = refl
swap false false p = refl

pub swap_two : (n a b p : Bool) → (n || (a || b)) || p ≡ b || (a || (n || p))
swap_two true true true p = refl
swap_two true true false p = refl
swap_two true false true p = refl
swap_two true false false p = refl
swap_two false true true p = refl
swap_two false true false p = refl
swap_two false false true p = refl
swap_two false false false p = refl

pub swap_three : (n a b c p : Bool) → (n || (a || (b || c))) || p ≡ c || (b || (a || (n || p)))
swap_three true a b true p = refl
swap_three true a true false p = refl
swap_three true true false false p = refl
swap_three true false false false p = refl
swap_three false true b true p = refl
swap_three false true true false p = refl
swap_three false true false false p = refl
swap_three false false true true p = refl
swap_three false false true false p = refl
swap_three false false false true p = refl
swap_three false false false false p = refl

pub or_false : (a : Bool) → a ≡ a || false
or_false true = refl
or_false false = refl

or_swap : (a b : Bool) → a || b ≡ b || a
or_swap true true = refl
or_swap true false = refl
or_swap false true = refl
or_swap false false = refl

-- ---- an operand is joined with what is open before it

record IsJoined (ps : List Pending) (e : Tree) (r : List Pending × Tree) : Type 0 where
  shapes : open_shapes r.0 ≡ open_shapes ps
  large : has_large_table r.1 || has_large r.0 ≡ has_large_table e || has_large ps

join_keeps : (k : ℕ) (ps : List Pending) (e : Tree) → IsJoined ps e (joined k ps e)
join_keeps k [] e = record { shapes = refl; large = refl }
join_keeps k (AfterNot ∷ ps) e = let j = join_keeps k ps (Inverse e) in record { shapes = j.shapes; large = j.large }
join_keeps k (AfterOperator o a ∷ ps) e = go (nat_le k (operator_level o)) (join_keeps k ps (Two o a e))
  where
    go : (t : Bool) → IsJoined ps (Two o a e) (joined k ps (Two o a e))
        → IsJoined (AfterOperator o a ∷ ps) e (elim t [ true ↦ joined k ps (Two o a e) | false ↦ (AfterOperator o a ∷ ps, e) ])
    go true j = record { shapes = j.shapes; large = j.large ∙ swap (has_large_table a) (has_large_table e) (has_large ps) }
    go false j = record { shapes = refl; large = refl }
join_keeps k (InBracket ∷ ps) e = record { shapes = refl; large = refl }
join_keeps k (First2 n ∷ ps) e = record { shapes = refl; large = refl }
join_keeps k (Second2 n a ∷ ps) e = record { shapes = refl; large = refl }
join_keeps k (First3 n ∷ ps) e = record { shapes = refl; large = refl }
join_keeps k (Second3 n a ∷ ps) e = record { shapes = refl; large = refl }
join_keeps k (Third3 n a b ∷ ps) e = record { shapes = refl; large = refl }

-- each operator is joined where a comma, a closing bracket or the end follows
joined_one : (o : Operator) (a e : Tree) (ps : List Pending) → joined 1 (AfterOperator o a ∷ ps) e ≡ joined 1 ps (Two o a e)
joined_one ThenOperator a e ps = refl
joined_one SameOperator a e ps = refl
joined_one OtherOperator a e ps = refl
joined_one OrOperator a e ps = refl
joined_one XorOperator a e ps = refl
joined_one AndOperator a e ps = refl

-- what is made of a joined operand and what is open before it, from what is made of the operator's two operands
past_operator : {X : Type 0} (f : Bool → X) (g : List Pending × Tree → X) (o : Operator) (a e : Tree) (ps : List Pending)
    → f (has_large_table (Two o a e) || has_large ps) ≡ g (joined 1 ps (Two o a e))
    → f (has_large_table e || has_large (AfterOperator o a ∷ ps)) ≡ g (joined 1 (AfterOperator o a ∷ ps) e)
past_operator f g o a e ps h =
    ap f (sym (swap (has_large_table a) (has_large_table e) (has_large ps))) ∙ h ∙ ap g (sym (joined_one o a e ps))

-- ---- a comma, a closing bracket, the end

comma_seen : (ps : List Pending) (e : Tree)
    → with_large (has_large_table e || has_large ps) (shape_comma (open_shapes ps)) ≡ option_map seen (at_comma (joined 1 ps e).0 (joined 1 ps e).1)
comma_seen [] e = refl
comma_seen (AfterNot ∷ ps) e = comma_seen ps (Inverse e)
comma_seen (AfterOperator o a ∷ ps) e =
    past_operator (λ l. with_large l (shape_comma (open_shapes ps))) (λ r. option_map seen (at_comma r.0 r.1)) o a e ps (comma_seen ps (Two o a e))
comma_seen (InBracket ∷ ps) e = refl
comma_seen (First2 n ∷ ps) e = refl
comma_seen (Second2 n a ∷ ps) e = refl
comma_seen (First3 n ∷ ps) e = refl
comma_seen (Second3 n a ∷ ps) e = refl
comma_seen (Third3 n a b ∷ ps) e = refl

close_seen : (ps : List Pending) (e : Tree)
    → with_large (has_large_table e || has_large ps) (shape_close (open_shapes ps)) ≡ option_map seen (at_close (joined 1 ps e).0 (joined 1 ps e).1)
close_seen [] e = refl
close_seen (AfterNot ∷ ps) e = close_seen ps (Inverse e)
close_seen (AfterOperator o a ∷ ps) e =
    past_operator (λ l. with_large l (shape_close (open_shapes ps))) (λ r. option_map seen (at_close r.0 r.1)) o a e ps (close_seen ps (Two o a e))
close_seen (InBracket ∷ ps) e = refl
close_seen (First2 n ∷ ps) e = refl
close_seen (Second2 n a ∷ ps) e =
    ap (λ l. Some ((open_shapes ps, Behind), l)) (sym (swap_two (nat_lt most_table2 (number_of n)) (has_large_table a) (has_large_table e) (has_large ps)))
close_seen (First3 n ∷ ps) e = refl
close_seen (Second3 n a ∷ ps) e = refl
close_seen (Third3 n a b ∷ ps) e =
    ap (λ l. Some ((open_shapes ps, Behind), l))
    (sym (swap_three (nat_lt most_table3 (number_of n)) (has_large_table a) (has_large_table b) (has_large_table e) (has_large ps)))

abbrev pub ended : Bool → Bool → Option Bool
ended whole large = cond whole (Some large) None

end_seen : (ps : List Pending) (e : Tree)
    → ended (is_whole (open_shapes ps, Behind)) (has_large_table e || has_large ps) ≡ option_map has_large_table (alone (joined 1 ps e).0 (joined 1 ps e).1)
end_seen [] e = ap Some (sym (or_false (has_large_table e)))
end_seen (AfterNot ∷ ps) e = end_seen ps (Inverse e)
end_seen (AfterOperator o a ∷ ps) e =
    past_operator (ended (is_whole (open_shapes ps, Behind))) (λ r. option_map has_large_table (alone r.0 r.1)) o a e ps (end_seen ps (Two o a e))
end_seen (InBracket ∷ ps) e = refl
end_seen (First2 n ∷ ps) e = refl
end_seen (Second2 n a ∷ ps) e = refl
end_seen (First3 n ∷ ps) e = refl
end_seen (Second3 n a ∷ ps) e = refl
end_seen (Third3 n a b ∷ ps) e = refl

pub whole_so : (r : Reading) → ended (is_whole (shape_of r)) (large_in r) ≡ option_map has_large_table (at_end r)
whole_so (Has ps e) = end_seen ps e
whole_so (Wants ps) = go (open_shapes ps) (has_large ps)
  where
    go : (qs : List OpenShape) (l : Bool) → ended (is_whole (qs, Wanted)) l ≡ None
    go [] l = refl
    go (q ∷ qs) l = refl
whole_so (Word2 ps) = go (open_shapes ps) (has_large ps)
  where
    go : (qs : List OpenShape) (l : Bool) → ended (is_whole (qs, Behind2)) l ≡ None
    go [] l = refl
    go (q ∷ qs) l = refl
whole_so (Word3 ps) = go (open_shapes ps) (has_large ps)
  where
    go : (qs : List OpenShape) (l : Bool) → ended (is_whole (qs, Behind3)) l ≡ None
    go [] l = refl
    go (q ∷ qs) l = refl
whole_so (Number2 ps n) = go (open_shapes ps) (large_in (Number2 ps n))
  where
    go : (qs : List OpenShape) (l : Bool) → ended (is_whole (qs, Counted2)) l ≡ None
    go [] l = refl
    go (q ∷ qs) l = refl
whole_so (Number3 ps n) = go (open_shapes ps) (large_in (Number3 ps n))
  where
    go : (qs : List OpenShape) (l : Bool) → ended (is_whole (qs, Counted3)) l ≡ None
    go [] l = refl
    go (q ∷ qs) l = refl

-- ---- a word more

operator_seen : (o : Operator) (ps : List Pending) (e : Tree)
    → with_large (has_large_table e || has_large ps) (Some (open_shapes ps, Wanted)) ≡ option_map seen (Some (after_operator o (joined (least_left o) ps e)))
operator_seen o ps e =
    let j = join_keeps (least_left o) ps e in ap₂ (λ s l. Some ((s, Wanted), l)) (sym j.shapes) (sym j.large)

mark_seen : (m : Mark) (ps : List Pending) (e : Tree)
    → with_large (has_large_table e || has_large ps) (shape_mark m (open_shapes ps)) ≡ option_map seen (behind_operand m ps e)
mark_seen Comma ps e = comma_seen ps e
mark_seen Close ps e = close_seen ps e
mark_seen Implies ps e = operator_seen ThenOperator ps e
mark_seen Equal ps e = operator_seen SameOperator ps e
mark_seen Differs ps e = operator_seen OtherOperator ps e
mark_seen Or ps e = operator_seen OrOperator ps e
mark_seen Xor ps e = operator_seen XorOperator ps e
mark_seen And ps e = operator_seen AndOperator ps e
mark_seen _ ps e = refl

name_seen : (ps : List Pending) (x : List ℕ)
    → with_large (has_large ps) (option_map (λ p. (open_shapes ps, p)) (shape_name x)) ≡ option_map seen (at_name ps x)
name_seen ps x = go (bytes_eq x (codes "return")) (bytes_eq x (codes "tab2")) (bytes_eq x (codes "tab3"))
  where
    go : (r s t : Bool)
        → with_large (has_large ps) (option_map (λ p. (open_shapes ps, p)) (cond r None (cond s (Some Behind2) (cond t (Some Behind3) (Some Behind)))))
        ≡ option_map seen (cond r None (cond s (Some (Word2 ps)) (cond t (Some (Word3 ps)) (Some (Has ps (Variable x))))))
    go true s t = refl
    go false true t = refl
    go false false true = refl
    go false false false = refl

number_seen : (ps : List Pending) (o : Option Bool)
    → with_large (has_large ps) (option_map (λ p. (open_shapes ps, p)) (option_map (λ b. Behind) o)) ≡ option_map seen (option_map (λ b. Has ps (Constant b)) o)
number_seen ps None = refl
number_seen ps (Some b) = refl

-- a word that is no table's number
no_number : (l : Bool) (o : Option Shape) → with_large (l || false) o ≡ with_large l o
no_number l o = ap (λ x. with_large x o) (sym (or_false l))

pub step_seen : (r : Reading) (w : Word)
    → with_large (large_in r || large_at (shape_of r).1 w) (next_shape (shape_of r).0 (shape_of r).1 w) ≡ option_map seen (next_reading r w)
step_seen (Wants ps) (Name x) = no_number (has_large ps) (option_map (λ p. (open_shapes ps, p)) (shape_name x)) ∙ name_seen ps x
step_seen (Wants ps) (Number n) = no_number (has_large ps) (option_map (λ p. (open_shapes ps, p)) (shape_number n)) ∙ number_seen ps (constant_of n)
step_seen (Wants ps) (Sign Not) = no_number (has_large ps) (Some (open_shapes ps, Wanted))
step_seen (Wants ps) (Sign Open) = no_number (has_large ps) (Some (Bracket ∷ open_shapes ps, Wanted))
step_seen (Word2 ps) (Number n) = ap (λ l. Some ((open_shapes ps, Counted2), l)) (or_swap (has_large ps) (nat_lt most_table2 (number_of n)))
step_seen (Word3 ps) (Number n) = ap (λ l. Some ((open_shapes ps, Counted3), l)) (or_swap (has_large ps) (nat_lt most_table3 (number_of n)))
step_seen (Number2 ps n) (Sign Open) = no_number (large_in (Number2 ps n)) (Some (FirstOf2 ∷ open_shapes ps, Wanted))
step_seen (Number3 ps n) (Sign Open) = no_number (large_in (Number3 ps n)) (Some (FirstOf3 ∷ open_shapes ps, Wanted))
step_seen (Has ps e) (Sign m) = no_number (large_in (Has ps e)) (shape_mark m (open_shapes ps)) ∙ mark_seen m ps e
step_seen _ _ = refl

-- ---- in memory

-- the shape and the large tables of a reading
pub record IsSeen (stack : List OpenShape) (place : Place) (large : Bool) (r : Reading) : Type 0 where
  pub shape : (reverse stack, place) ≡ shape_of r
  pub large_too : large ≡ large_in r

-- the reading that is reached by a word more
pub record IsNext (stack : List OpenShape) (place : Place) (large : Bool) (r : Reading) (w : Word) : Type 0 where
  pub reading : Reading
  pub is : next_reading r w ≡ Some reading
  pub seen_so : IsSeen stack place large reading

step_now : (old now : List OpenShape) (place : Place) (large : Bool) (r : Reading) (w : Word) (o : Option Place) → IsSeen old place large r
    → shape_now o now ≡ next_shape (reverse old) place w → with_large (large || large_at place w) (shape_now o now) ≡ option_map seen (next_reading r w)
step_now old now place large r w o s h =
    ap (with_large (large || large_at place w)) h
    ∙ ap₂ (λ l (t : Shape). with_large (l || large_at t.1 w) (next_shape t.0 t.1 w)) s.large_too s.shape
    ∙ step_seen r w

pub none_next : (old now : List OpenShape) (place : Place) (large : Bool) (r : Reading) (w : Word) → IsSeen old place large r
    → shape_now None now ≡ next_shape (reverse old) place w → next_reading r w ≡ None
none_next old now place large r w s h = go (next_reading r w) (step_now old now place large r w None s h)
  where
    go : (n : Option Reading) → None ≡ option_map seen n → n ≡ None
    go None h = refl
    go (Some q) h = cc

pub some_next : (old now : List OpenShape) (place next : Place) (large : Bool) (r : Reading) (w : Word) → IsSeen old place large r
    → shape_now (Some next) now ≡ next_shape (reverse old) place w → IsNext now next (large || large_at place w) r w
some_next old now place next large r w s h = go (next_reading r w) refl (step_now old now place large r w (Some next) s h)
  where
    go : (n : Option Reading) → next_reading r w ≡ n → Some ((reverse now, next), large || large_at place w) ≡ option_map seen n
        → IsNext now next (large || large_at place w) r w
    go None is h = cc
    go (Some q) is h =
        let same : ((reverse now, next), large || large_at place w) ≡ seen q = cc in
        record { reading = q; is = is; seen_so = record { shape = ap (λ (x : Seen). x.0) same; large_too = ap (λ (x : Seen). x.1) same } }

-- ---- what is left to read

-- with the words that are left the reading is this expression, or none
abbrev pub Leaves : List OpenShape → Place → Bool → List Word → Option Tree → Type 0
Leaves stack place large left t = (r : Reading) × IsSeen stack place large r × (tree_from r left ≡ t)

pub at_first : (ws : List Word) → Leaves [] Wanted false ws (tree_of ws)
at_first ws = (Wants [], record { shape = refl; large_too = refl }, refl)

module _ (old now : List OpenShape) (place : Place) (large : Bool) (left : List Word) (t : Option Tree) (w : Word) (ws : List Word) (h : Leaves old place large left t) (first : left ≡ w ∷ ws) where
  pub word_more : (next : Place) (o : Option Place) → o ≡ Some next → shape_now o now ≡ next_shape (reverse old) place w → Leaves now next (large || large_at place w) ws t
  word_more next o is step =
      let n = some_next old now place next large h.0 w h.1 (ap (λ x. shape_now x now) (sym is) ∙ step) in
      (n.reading, n.seen_so, sym (ap (λ (x : Option Reading). elim x [ None ↦ None | Some q ↦ tree_from q ws ]) n.is) ∙ sym (ap (tree_from h.0) first) ∙ h.2)

  pub word_too_many : (o : Option Place) → o ≡ None → shape_now o now ≡ next_shape (reverse old) place w → None ≡ option_map has_large_table t
  word_too_many o is step =
      let n = none_next old now place large h.0 w h.1 (ap (λ x. shape_now x now) (sym is) ∙ step) in
      ap (option_map has_large_table) (sym (ap (λ (x : Option Reading). elim x [ None ↦ None | Some q ↦ tree_from q ws ]) n) ∙ sym (ap (tree_from h.0) first) ∙ h.2)

pub at_the_end : (whole : Bool) (stack : List OpenShape) (place : Place) (large : Bool) (left : List Word) (t : Option Tree) → Leaves stack place large left t → left ≡ []
    → whole ≡ is_whole (reverse stack, place) → ended whole large ≡ option_map has_large_table t
at_the_end whole stack place large left t h none is =
    ap (λ b. ended b large) (is ∙ ap is_whole h.1.shape)
    ∙ ap (ended (is_whole (shape_of h.0))) h.1.large_too
    ∙ whole_so h.0
    ∙ ap (option_map has_large_table) (sym (ap (tree_from h.0) none) ∙ h.2)
