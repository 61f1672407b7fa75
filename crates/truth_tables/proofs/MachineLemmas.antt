-- What is made of words is what is made of the expression that they are.
use Rattle.std.proofs.Common.{◌≡◌, ℕ, Bool, true, false, cond, List, [], ◌∷◌, Option, Some, None, option_map, refl, ap, ◌∙◌}
use Rattle.std.specs.Prelude.{nat_le, codes, bytes_eq}
use Rattle.wpds_port.specs.declared.Mark.{Mark}
use Rattle.wpds_port.specs.declared.Mark.TheVariants.{Implies, Differs, Comma, Equal, Not, And, Or, Xor, Open, Close}
use Rattle.wpds_port.specs.declared.Word.{Word}
use Rattle.wpds_port.specs.declared.Word.TheVariants.{Name, Number, Mark as Sign}
use Rattle.truth_tables.specs.Grammar.{Operator, operator_level, least_left, Tree, Constant, Variable, Inverse, Two}
use Rattle.truth_tables.specs.Stacks.{constant_of, Pending, AfterNot, AfterOperator, InBracket, First2, Second2, First3, Second3, Third3, Reading, Wants, Word2, Word3, Number2, Number3, Has, joined, after_operator, at_comma, at_close, behind_operand, at_name, next_reading, alone, at_end, tree_from, tree_of}
use Rattle.truth_tables.specs.Machine.{Parts, Unclosed, NotOpen, OperatorOpen, BracketOpen, First2Open, Second2Open, First3Open, Second3Open, Third3Open, Progress, Wanted, Behind2, Behind3, Counted2, Counted3, Operand, folded, closed, behind_comma, behind_close, operator_waits, behind_mark, behind_name, progress, only, at_last, made_from, made_of}

module _ {X N : Type 0} (p : Parts X N) where
  abbrev pub unclosed : Pending → Unclosed X N
  unclosed AfterNot = NotOpen
  unclosed (AfterOperator o a) = OperatorOpen o (folded p a)
  unclosed InBracket = BracketOpen
  unclosed (First2 n) = First2Open (p.number2 n)
  unclosed (Second2 n a) = Second2Open (p.number2 n) (folded p a)
  unclosed (First3 n) = First3Open (p.number3 n)
  unclosed (Second3 n a) = Second3Open (p.number3 n) (folded p a)
  unclosed (Third3 n a b) = Third3Open (p.number3 n) (folded p a) (folded p b)

  abbrev pub stack : List Pending → List (Unclosed X N)
  stack [] = []
  stack (q ∷ qs) = unclosed q ∷ stack qs

  abbrev both : List Pending × Tree → List (Unclosed X N) × X
  both r = (stack r.0, folded p r.1)

  abbrev pub reached : Reading → Progress X N
  reached (Wants ps) = Wanted (stack ps)
  reached (Word2 ps) = Behind2 (stack ps)
  reached (Word3 ps) = Behind3 (stack ps)
  reached (Number2 ps n) = Counted2 (stack ps) (p.number2 n)
  reached (Number3 ps n) = Counted3 (stack ps) (p.number3 n)
  reached (Has ps e) = Operand (stack ps) (folded p e)

  closes_so : (k : ℕ) (ps : List Pending) (e : Tree) → closed p k (stack ps) (folded p e) ≡ both (joined k ps e)
  closes_so k [] e = refl
  closes_so k (AfterNot ∷ ps) e = closes_so k ps (Inverse e)
  closes_so k (AfterOperator o a ∷ ps) e = go (nat_le k (operator_level o)) (closes_so k ps (Two o a e))
    where
      go : (t : Bool) → closed p k (stack ps) (folded p (Two o a e)) ≡ both (joined k ps (Two o a e))
          → elim t [ true ↦ closed p k (stack ps) (p.two o (folded p a) (folded p e)) | false ↦ (OperatorOpen o (folded p a) ∷ stack ps, folded p e) ] ≡ both (elim t [ true ↦ joined k ps (Two o a e) | false ↦ (AfterOperator o a ∷ ps, e) ])
      go true h = h
      go false h = refl
  closes_so k (InBracket ∷ ps) e = refl
  closes_so k (First2 n ∷ ps) e = refl
  closes_so k (Second2 n a ∷ ps) e = refl
  closes_so k (First3 n ∷ ps) e = refl
  closes_so k (Second3 n a ∷ ps) e = refl
  closes_so k (Third3 n a b ∷ ps) e = refl

  comma_so : (ps : List Pending) (e : Tree) → behind_comma p (stack ps) (folded p e) ≡ option_map reached (at_comma ps e)
  comma_so [] e = refl
  comma_so (AfterNot ∷ ps) e = refl
  comma_so (AfterOperator o a ∷ ps) e = refl
  comma_so (InBracket ∷ ps) e = refl
  comma_so (First2 n ∷ ps) e = refl
  comma_so (Second2 n a ∷ ps) e = refl
  comma_so (First3 n ∷ ps) e = refl
  comma_so (Second3 n a ∷ ps) e = refl
  comma_so (Third3 n a b ∷ ps) e = refl

  close_so : (ps : List Pending) (e : Tree) → behind_close p (stack ps) (folded p e) ≡ option_map reached (at_close ps e)
  close_so [] e = refl
  close_so (AfterNot ∷ ps) e = refl
  close_so (AfterOperator o a ∷ ps) e = refl
  close_so (InBracket ∷ ps) e = refl
  close_so (First2 n ∷ ps) e = refl
  close_so (Second2 n a ∷ ps) e = refl
  close_so (First3 n ∷ ps) e = refl
  close_so (Second3 n a ∷ ps) e = refl
  close_so (Third3 n a b ∷ ps) e = refl

  operator_so : (o : Operator) (ps : List Pending) (e : Tree) → Some (operator_waits p o (closed p (least_left o) (stack ps) (folded p e))) ≡ option_map reached (Some (after_operator o (joined (least_left o) ps e)))
  operator_so o ps e = ap (λ r. Some (operator_waits p o r)) (closes_so (least_left o) ps e)

  mark_so : (m : Mark) (ps : List Pending) (e : Tree) → behind_mark p m (stack ps) (folded p e) ≡ option_map reached (behind_operand m ps e)
  mark_so Comma ps e = ap (λ r. behind_comma p r.0 r.1) (closes_so 1 ps e) ∙ comma_so (joined 1 ps e).0 (joined 1 ps e).1
  mark_so Close ps e = ap (λ r. behind_close p r.0 r.1) (closes_so 1 ps e) ∙ close_so (joined 1 ps e).0 (joined 1 ps e).1
  mark_so Implies ps e = operator_so _ ps e
  mark_so Equal ps e = operator_so _ ps e
  mark_so Differs ps e = operator_so _ ps e
  mark_so Or ps e = operator_so _ ps e
  mark_so Xor ps e = operator_so _ ps e
  mark_so And ps e = operator_so _ ps e
  mark_so _ ps e = refl

  name_so : (ps : List Pending) (x : List ℕ) → behind_name p (stack ps) x ≡ option_map reached (at_name ps x)
  name_so ps x = go (bytes_eq x (codes "return")) (bytes_eq x (codes "tab2")) (bytes_eq x (codes "tab3"))
    where
      go : (r s t : Bool) → cond r None (cond s (Some (Behind2 (stack ps))) (cond t (Some (Behind3 (stack ps))) (Some (Operand (stack ps) (p.variable x))))) ≡ option_map reached (cond r None (cond s (Some (Word2 ps)) (cond t (Some (Word3 ps)) (Some (Has ps (Variable x))))))
      go true s t = refl
      go false true t = refl
      go false false true = refl
      go false false false = refl

  number_so : (ps : List Pending) (o : Option Bool) → option_map (λ b. Operand (stack ps) (p.constant b)) o ≡ option_map reached (option_map (λ b. Has ps (Constant b)) o)
  number_so ps None = refl
  number_so ps (Some b) = refl

  pub step_so : (r : Reading) (w : Word) → progress p (reached r) w ≡ option_map reached (next_reading r w)
  step_so (Wants ps) (Name x) = name_so ps x
  step_so (Wants ps) (Number n) = number_so ps (constant_of n)
  step_so (Has ps e) (Sign m) = mark_so m ps e
  step_so (Wants ps) (Sign Not) = refl
  step_so (Wants ps) (Sign Open) = refl
  step_so (Word2 ps) (Number n) = refl
  step_so (Word3 ps) (Number n) = refl
  step_so (Number2 ps n) (Sign Open) = refl
  step_so (Number3 ps n) (Sign Open) = refl
  step_so _ _ = refl

  pub end_so : (r : Reading) → at_last p (reached r) ≡ option_map (folded p) (at_end r)
  end_so (Has ps e) = ap (λ q. only p q.0 q.1) (closes_so 1 ps e) ∙ only_so (joined 1 ps e).0 (joined 1 ps e).1
    where
      only_so : (qs : List Pending) (f : Tree) → only p (stack qs) (folded p f) ≡ option_map (folded p) (alone qs f)
      only_so [] f = refl
      only_so (q ∷ qs) f = refl
  end_so _ = refl

  made_so : (r : Reading) (ws : List Word) → made_from p (reached r) ws ≡ option_map (folded p) (tree_from r ws)
  made_so r [] = end_so r
  made_so r (w ∷ ws) = go (progress p (reached r) w) (next_reading r w) (step_so r w) (λ q. made_so q ws)
    where
      go : (o : Option (Progress X N)) (n : Option Reading) → o ≡ option_map reached n → ((q : Reading) → made_from p (reached q) ws ≡ option_map (folded p) (tree_from q ws))
          → elim o [ None ↦ None | Some q ↦ made_from p q ws ] ≡ option_map (folded p) (elim n [ None ↦ None | Some q ↦ tree_from q ws ])
      go None None h more = refl
      go (Some q) None h more = cc
      go None (Some n) h more = cc
      go (Some q) (Some n) h more = let same : q ≡ reached n = cc in ap (λ x. made_from p x ws) same ∙ more n

  pub made_of_tree : (ws : List Word) → made_of p ws ≡ option_map (folded p) (tree_of ws)
  made_of_tree ws = made_so (Wants []) ws
