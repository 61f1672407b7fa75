-- How deep an expression is at least while it is read: each part that is open makes it one deeper.
use Rattle.std.proofs.Common.{◌≡◌, ℕ, ◌+◌, ◌≤◌, Bool, true, false, cond, List, [], ◌∷◌, Option, Some, None, IfSome, option_map, refl, subst, arith, length}
use Rattle.std.specs.Prelude.{nat_le, max, codes, bytes_eq}
use Rattle.wpds_port.specs.declared.Mark.{Mark}
use Rattle.wpds_port.specs.declared.Mark.TheVariants.{Implies, Differs, Comma, Equal, Not, And, Or, Xor, Open, Close}
use Rattle.wpds_port.specs.declared.Word.{Word}
use Rattle.wpds_port.specs.declared.Word.TheVariants.{Name, Number, Mark as Sign}
use Rattle.truth_tables.specs.Grammar.{Operator, ThenOperator, SameOperator, OtherOperator, OrOperator, XorOperator, AndOperator, operator_level, least_left, Tree, Constant, Variable, Inverse, Two, depth}
use Rattle.truth_tables.specs.private.Depths.{least, least_of}
use Rattle.truth_tables.specs.Stacks.{constant_of, Pending, AfterNot, AfterOperator, InBracket, First2, Second2, First3, Second3, Third3, Reading, Wants, Word2, Word3, Number2, Number3, Has, joined, after_operator, at_comma, at_close, behind_operand, at_name, next_reading, alone, at_end, tree_from}

pub more : (ps : List Pending) (c d : ℕ) → c ≤ d → least ps c ≤ least ps d
more [] c d h = h
more (AfterNot ∷ ps) c d h = more ps (c + 1) (d + 1) (omega arith)
more (AfterOperator o a ∷ ps) c d h = more ps (max (depth a) c + 1) (max (depth a) d + 1) (omega arith)
more (InBracket ∷ ps) c d h = more ps (c + 1) (d + 1) (omega arith)
more (First2 n ∷ ps) c d h = more ps (c + 1) (d + 1) (omega arith)
more (Second2 n a ∷ ps) c d h = more ps (max (depth a) c + 1) (max (depth a) d + 1) (omega arith)
more (First3 n ∷ ps) c d h = more ps (c + 1) (d + 1) (omega arith)
more (Second3 n a ∷ ps) c d h = more ps (max (depth a) c + 1) (max (depth a) d + 1) (omega arith)
more (Third3 n a b ∷ ps) c d h = more ps (max (depth a) (max (depth b) c) + 1) (max (depth a) (max (depth b) d) + 1) (omega arith)

pub one_each : (ps : List Pending) (d : ℕ) → length ps + d ≤ least ps d
one_each [] d = omega arith
one_each (AfterNot ∷ ps) d = omega (arith, one_each ps (d + 1))
one_each (AfterOperator o a ∷ ps) d = omega (arith, one_each ps (max (depth a) d + 1))
one_each (InBracket ∷ ps) d = omega (arith, one_each ps (d + 1))
one_each (First2 n ∷ ps) d = omega (arith, one_each ps (d + 1))
one_each (Second2 n a ∷ ps) d = omega (arith, one_each ps (max (depth a) d + 1))
one_each (First3 n ∷ ps) d = omega (arith, one_each ps (d + 1))
one_each (Second3 n a ∷ ps) d = omega (arith, one_each ps (max (depth a) d + 1))
one_each (Third3 n a b ∷ ps) d = omega (arith, one_each ps (max (depth a) (max (depth b) d) + 1))

-- ---- an operand is joined with what is open before it

abbrev joined_depth : List Pending × Tree → ℕ
joined_depth r = least r.0 (depth r.1)

same_joined : (k : ℕ) (ps : List Pending) (e : Tree) → joined_depth (joined k ps e) ≡ least ps (depth e)
same_joined k [] e = refl
same_joined k (AfterNot ∷ ps) e = same_joined k ps (Inverse e)
same_joined k (AfterOperator o a ∷ ps) e = go (nat_le k (operator_level o)) (same_joined k ps (Two o a e))
  where
    go : (t : Bool) → joined_depth (joined k ps (Two o a e)) ≡ least ps (max (depth a) (depth e) + 1)
        → joined_depth (elim t [ true ↦ joined k ps (Two o a e) | false ↦ (AfterOperator o a ∷ ps, e) ]) ≡ least ps (max (depth a) (depth e) + 1)
    go true h = h
    go false h = refl
same_joined k (InBracket ∷ ps) e = refl
same_joined k (First2 n ∷ ps) e = refl
same_joined k (Second2 n a ∷ ps) e = refl
same_joined k (First3 n ∷ ps) e = refl
same_joined k (Second3 n a ∷ ps) e = refl
same_joined k (Third3 n a b ∷ ps) e = refl

-- ---- a word more

-- what is read next is as deep at least
abbrev NoLess : ℕ → Option Reading → Type 0
NoLess d o = IfSome o (λ q. d ≤ least_of q)

comma_more : (ps : List Pending) (e : Tree) → NoLess (least ps (depth e)) (at_comma ps e)
comma_more [] e = tt
comma_more (AfterNot ∷ ps) e = tt
comma_more (AfterOperator o a ∷ ps) e = tt
comma_more (InBracket ∷ ps) e = tt
comma_more (First2 n ∷ ps) e = more ps (depth e + 1) (max (depth e) 1 + 1) (omega arith)
comma_more (Second2 n a ∷ ps) e = tt
comma_more (First3 n ∷ ps) e = more ps (depth e + 1) (max (depth e) 1 + 1) (omega arith)
comma_more (Second3 n a ∷ ps) e = more ps (max (depth a) (depth e) + 1) (max (depth a) (max (depth e) 1) + 1) (omega arith)
comma_more (Third3 n a b ∷ ps) e = tt

close_more : (ps : List Pending) (e : Tree) → NoLess (least ps (depth e)) (at_close ps e)
close_more [] e = tt
close_more (AfterNot ∷ ps) e = tt
close_more (AfterOperator o a ∷ ps) e = tt
close_more (InBracket ∷ ps) e = omega arith
close_more (First2 n ∷ ps) e = tt
close_more (Second2 n a ∷ ps) e = omega arith
close_more (First3 n ∷ ps) e = tt
close_more (Second3 n a ∷ ps) e = tt
close_more (Third3 n a b ∷ ps) e = omega arith

pub operator_more : (o : Operator) (ps : List Pending) (e : Tree) → least ps (depth e) ≤ least_of (after_operator o (joined (least_left o) ps e))
operator_more o ps e =
    let r = joined (least_left o) ps e in
    omega (arith, same_joined (least_left o) ps e, more r.0 (depth r.1) (max (depth r.1) 1 + 1) (omega arith))

pub mark_more : (m : Mark) (ps : List Pending) (e : Tree) → NoLess (least ps (depth e)) (behind_operand m ps e)
mark_more Comma ps e =
    let r = joined 1 ps e in subst (λ d. NoLess d (at_comma r.0 r.1)) (same_joined 1 ps e) (comma_more r.0 r.1)
mark_more Close ps e =
    let r = joined 1 ps e in subst (λ d. NoLess d (at_close r.0 r.1)) (same_joined 1 ps e) (close_more r.0 r.1)
mark_more Implies ps e = operator_more ThenOperator ps e
mark_more Equal ps e = operator_more SameOperator ps e
mark_more Differs ps e = operator_more OtherOperator ps e
mark_more Or ps e = operator_more OrOperator ps e
mark_more Xor ps e = operator_more XorOperator ps e
mark_more And ps e = operator_more AndOperator ps e
mark_more _ ps e = tt

name_more : (ps : List Pending) (x : List ℕ) → NoLess (least ps 1) (at_name ps x)
name_more ps x = go (bytes_eq x (codes "return")) (bytes_eq x (codes "tab2")) (bytes_eq x (codes "tab3"))
  where
    go : (r s t : Bool) → NoLess (least ps 1) (cond r None (cond s (Some (Word2 ps)) (cond t (Some (Word3 ps)) (Some (Has ps (Variable x))))))
    go true s t = tt
    go false true t = omega arith
    go false false true = omega arith
    go false false false = omega arith

number_more : (ps : List Pending) (o : Option Bool) → NoLess (least ps 1) (option_map (λ b. Has ps (Constant b)) o)
number_more ps None = tt
number_more ps (Some b) = omega arith

pub step_more : (r : Reading) (w : Word) → NoLess (least_of r) (next_reading r w)
step_more (Wants ps) (Name x) = name_more ps x
step_more (Wants ps) (Number n) = number_more ps (constant_of n)
step_more (Wants ps) (Sign Not) = more ps 1 2 (omega arith)
step_more (Wants ps) (Sign Open) = more ps 1 2 (omega arith)
step_more (Word2 ps) (Number n) = omega arith
step_more (Word3 ps) (Number n) = omega arith
step_more (Number2 ps n) (Sign Open) = more ps 1 2 (omega arith)
step_more (Number3 ps n) (Sign Open) = more ps 1 2 (omega arith)
step_more (Has ps e) (Sign m) = mark_more m ps e
step_more _ _ = tt

-- ---- all words

pub end_more : (r : Reading) → IfSome (at_end r) (λ t. least_of r ≤ depth t)
end_more (Has ps e) = let r = joined 1 ps e in subst (λ d. IfSome (alone r.0 r.1) (λ t. d ≤ depth t)) (same_joined 1 ps e) (go r.0 r.1)
  where
    go : (qs : List Pending) (f : Tree) → IfSome (alone qs f) (λ t. least qs (depth f) ≤ depth t)
    go [] f = omega arith
    go (q ∷ qs) f = tt
end_more _ = tt

pub tree_more : (r : Reading) (ws : List Word) → IfSome (tree_from r ws) (λ t. least_of r ≤ depth t)
tree_more r [] = end_more r
tree_more r (w ∷ ws) = go (next_reading r w) (step_more r w) (λ q. tree_more q ws)
  where
    go : (n : Option Reading) → NoLess (least_of r) n → ((q : Reading) → IfSome (tree_from q ws) (λ t. least_of q ≤ depth t))
        → IfSome (elim n [ None ↦ None | Some q ↦ tree_from q ws ]) (λ t. least_of r ≤ depth t)
    go None h f = tt
    go (Some q) h f = deeper (tree_from q ws) (f q)
      where
        deeper : (o : Option Tree) → IfSome o (λ t. least_of q ≤ depth t) → IfSome o (λ t. least_of r ≤ depth t)
        deeper None k = tt
        deeper (Some t) k = omega arith
