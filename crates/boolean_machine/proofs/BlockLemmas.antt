-- Where the lines of nested blocks lead stays in their procedure.
use Rattle.std.proofs.Common.{◌≡◌, ℕ, zero, suc, ◌<◌, Bool, true, false, not, List, [], ◌∷◌, ◌++◌, length, refl, sym, ap, ◌∙◌, subst, arith}
use Rattle.std.specs.Prelude.{Some, slice_get, IsTrue}
use Rattle.std.proofs.lemmas.Bool.{and_parts}
use Rattle.std.proofs.lemmas.Option.{same_Some}
use Rattle.boolean_programs.specs.declared.statement.Statement.{Statement}
use Rattle.boolean_programs.specs.declared.program.BodyLine.{BodyLine}
use Rattle.boolean_programs.specs.declared.statement.Statement.TheVariants.{Skip, Assign, Goto, Assume, Assert, Call, Return, If, Else, While, EndIf, EndWhile, EndProc}
use Rattle.boolean_programs.specs.Lines.{Instruction, first_line, behind_end, behind_else, opened_at, other_line, instructions}
use Rattle.boolean_programs.specs.Lists.{Each}
use Rattle.boolean_programs.specs.Structure.{Block, InIf, InElse, InWhile, is_if, is_while, nested}

-- a line like this one with another statement
abbrev line : BodyLine → Statement → BodyLine
line n s = record { line = n.line; label = n.label; statement = s }

abbrev pub IsTail : List BodyLine → List BodyLine → Type 0
IsTail ms ls = (front : List BodyLine) × (front ++ ms ≡ ls)

further : (l : BodyLine) (ms ls : List BodyLine) → IsTail ms ls → IsTail ms (l ∷ ls)
further l ms ls tail = (l ∷ tail.0, ap (λ (xs : List BodyLine). l ∷ xs) tail.1)

-- ---- behind blocks

-- lines of the same procedure, so that there is one at least
abbrev Goes : List BodyLine → List BodyLine → Type 0
Goes ms ls = (bs : List Block) × IsTrue (nested bs ms) × IsTail ms ls

goes_further : (l : BodyLine) (ms ls : List BodyLine) → Goes ms ls → Goes ms (l ∷ ls)
goes_further l ms ls goes = (goes.0, goes.1, further l ms ls goes.2)

abbrev Ends : List BodyLine → Type 0
Ends ls = (d : ℕ) (blocks : List Block) → d < length blocks → nested blocks ls ≡ true → Goes (behind_end d ls) ls

end_step : (n : BodyLine) (s : Statement) (ls : List BodyLine) → Ends ls → (d : ℕ) (blocks : List Block) → d < length blocks → nested blocks (line n s ∷ ls) ≡ true → Goes (behind_end d (line n s ∷ ls)) (line n s ∷ ls)
end_step n (If c) ls more d blocks h t = goes_further (line n (If c)) (behind_end (suc d) ls) ls (more (suc d) (InIf ∷ blocks) (omega arith) t)
end_step n (While c) ls more d blocks h t = goes_further (line n (While c)) (behind_end (suc d) ls) ls (more (suc d) (InWhile ∷ blocks) (omega arith) t)
end_step n Else ls more d [] h t = absurd (omega arith)
end_step n Else ls more d (b ∷ bs) h t = goes_further (line n Else) (behind_end d ls) ls (more d (InElse ∷ bs) h (and_parts (is_if b) (nested (InElse ∷ bs) ls) t).1)
end_step n EndIf ls more d [] h t = absurd (omega arith)
end_step n EndIf ls more zero (b ∷ bs) h t = (bs, (and_parts (not (is_while b)) (nested bs ls) t).1, (line n EndIf ∷ [], refl))
end_step n EndIf ls more (suc d) (b ∷ bs) h t = goes_further (line n EndIf) (behind_end d ls) ls (more d bs (omega arith) (and_parts (not (is_while b)) (nested bs ls) t).1)
end_step n EndWhile ls more d [] h t = absurd (omega arith)
end_step n EndWhile ls more zero (b ∷ bs) h t = (bs, (and_parts (is_while b) (nested bs ls) t).1, (line n EndWhile ∷ [], refl))
end_step n EndWhile ls more (suc d) (b ∷ bs) h t = goes_further (line n EndWhile) (behind_end d ls) ls (more d bs (omega arith) (and_parts (is_while b) (nested bs ls) t).1)
end_step n EndProc ls more d [] h t = absurd (omega arith)
end_step n EndProc ls more d (b ∷ bs) h t = cc
end_step n Skip ls more d blocks h t = goes_further (line n Skip) (behind_end d ls) ls (more d blocks h t)
end_step n (Assign targets values) ls more d blocks h t = goes_further (line n (Assign targets values)) (behind_end d ls) ls (more d blocks h t)
end_step n (Goto lines) ls more d blocks h t = goes_further (line n (Goto lines)) (behind_end d ls) ls (more d blocks h t)
end_step n (Assume e) ls more d blocks h t = goes_further (line n (Assume e)) (behind_end d ls) ls (more d blocks h t)
end_step n (Assert e) ls more d blocks h t = goes_further (line n (Assert e)) (behind_end d ls) ls (more d blocks h t)
end_step n (Call targets callee arguments) ls more d blocks h t = goes_further (line n (Call targets callee arguments)) (behind_end d ls) ls (more d blocks h t)
end_step n (Return values) ls more d blocks h t = goes_further (line n (Return values)) (behind_end d ls) ls (more d blocks h t)

ends : (ls : List BodyLine) → Ends ls
ends [] d blocks h t = cc
ends (l ∷ ls) d blocks h t = end_step l l.statement ls (ends ls) d blocks h t

abbrev Elses : List BodyLine → Type 0
Elses ls = (d : ℕ) (blocks : List Block) → d < length blocks → nested blocks ls ≡ true → Goes (behind_else d ls) ls

else_step : (n : BodyLine) (s : Statement) (ls : List BodyLine) → Elses ls → (d : ℕ) (blocks : List Block) → d < length blocks → nested blocks (line n s ∷ ls) ≡ true → Goes (behind_else d (line n s ∷ ls)) (line n s ∷ ls)
else_step n (If c) ls more d blocks h t = goes_further (line n (If c)) (behind_else (suc d) ls) ls (more (suc d) (InIf ∷ blocks) (omega arith) t)
else_step n (While c) ls more d blocks h t = goes_further (line n (While c)) (behind_else (suc d) ls) ls (more (suc d) (InWhile ∷ blocks) (omega arith) t)
else_step n Else ls more d [] h t = absurd (omega arith)
else_step n Else ls more zero (b ∷ bs) h t = (InElse ∷ bs, (and_parts (is_if b) (nested (InElse ∷ bs) ls) t).1, (line n Else ∷ [], refl))
else_step n Else ls more (suc d) (b ∷ bs) h t = goes_further (line n Else) (behind_else (suc d) ls) ls (more (suc d) (InElse ∷ bs) h (and_parts (is_if b) (nested (InElse ∷ bs) ls) t).1)
else_step n EndIf ls more d [] h t = absurd (omega arith)
else_step n EndIf ls more zero (b ∷ bs) h t = (bs, (and_parts (not (is_while b)) (nested bs ls) t).1, (line n EndIf ∷ [], refl))
else_step n EndIf ls more (suc d) (b ∷ bs) h t = goes_further (line n EndIf) (behind_else d ls) ls (more d bs (omega arith) (and_parts (not (is_while b)) (nested bs ls) t).1)
else_step n EndWhile ls more d [] h t = absurd (omega arith)
else_step n EndWhile ls more zero (b ∷ bs) h t = (bs, (and_parts (is_while b) (nested bs ls) t).1, (line n EndWhile ∷ [], refl))
else_step n EndWhile ls more (suc d) (b ∷ bs) h t = goes_further (line n EndWhile) (behind_else d ls) ls (more d bs (omega arith) (and_parts (is_while b) (nested bs ls) t).1)
else_step n EndProc ls more d [] h t = absurd (omega arith)
else_step n EndProc ls more d (b ∷ bs) h t = cc
else_step n Skip ls more d blocks h t = goes_further (line n Skip) (behind_else d ls) ls (more d blocks h t)
else_step n (Assign targets values) ls more d blocks h t = goes_further (line n (Assign targets values)) (behind_else d ls) ls (more d blocks h t)
else_step n (Goto lines) ls more d blocks h t = goes_further (line n (Goto lines)) (behind_else d ls) ls (more d blocks h t)
else_step n (Assume e) ls more d blocks h t = goes_further (line n (Assume e)) (behind_else d ls) ls (more d blocks h t)
else_step n (Assert e) ls more d blocks h t = goes_further (line n (Assert e)) (behind_else d ls) ls (more d blocks h t)
else_step n (Call targets callee arguments) ls more d blocks h t = goes_further (line n (Call targets callee arguments)) (behind_else d ls) ls (more d blocks h t)
else_step n (Return values) ls more d blocks h t = goes_further (line n (Return values)) (behind_else d ls) ls (more d blocks h t)

elses : (ls : List BodyLine) → Elses ls
elses [] d blocks h t = cc
elses (l ∷ ls) d blocks h t = else_step l l.statement ls (elses ls) d blocks h t

-- ---- the lines above

-- so many of the lines above have opened a block that is not closed
abbrev pub Opened : List BodyLine → ℕ → Type 0
Opened above count = (d : ℕ) → d < count → (j : ℕ) × (l : BodyLine) × (slice_get above j ≡ Some l) × (l.line ≡ opened_at d above)

abbrev pub Later : BodyLine → Statement → List BodyLine → List BodyLine → Type 0
Later n s above ls = (blocks : List Block) × IsTrue (nested blocks ls) × Opened (line n s ∷ above) (length blocks)

below_one : (above : List BodyLine) (l : BodyLine) (n : ℕ) → ((j : ℕ) × (m : BodyLine) × (slice_get above j ≡ Some m) × (m.line ≡ n)) → (j : ℕ) × (m : BodyLine) × (slice_get (l ∷ above) j ≡ Some m) × (m.line ≡ n)
below_one above l n there = (suc there.0, there.1, there.2, there.3)

-- a line that opens a block
opening : (n : BodyLine) (s : Statement) (above : List BodyLine) (count : ℕ) → ((e : ℕ) → opened_at (suc e) (line n s ∷ above) ≡ opened_at e above) → opened_at 0 (line n s ∷ above) ≡ n.line
    → Opened above count → Opened (line n s ∷ above) (suc count)
opening n s above count rest first opened zero h = (0, line n s, refl, sym first)
opening n s above count rest first opened (suc e) h =
    let there = opened e (omega arith) in (suc there.0, there.1, there.2, there.3 ∙ sym (rest e))

abbrev pub goes_on : Statement → Bool
goes_on EndProc = false
goes_on s = true

pub later : (n : BodyLine) (s : Statement) (above ls : List BodyLine) (blocks : List Block) → goes_on s ≡ true → nested blocks (line n s ∷ ls) ≡ true → Opened above (length blocks) → Later n s above ls
later n (If c) above ls blocks g t opened = (InIf ∷ blocks, t, opening n (If c) above (length blocks) (λ e. refl) refl opened)
later n (While c) above ls blocks g t opened = (InWhile ∷ blocks, t, opening n (While c) above (length blocks) (λ e. refl) refl opened)
later n Else above ls [] g t opened = cc
later n Else above ls (b ∷ bs) g t opened = (InElse ∷ bs, (and_parts (is_if b) (nested (InElse ∷ bs) ls) t).1, λ d h. below_one above (line n Else) (opened_at d above) (opened d h))
later n EndIf above ls [] g t opened = cc
later n EndIf above ls (b ∷ bs) g t opened = (bs, (and_parts (not (is_while b)) (nested bs ls) t).1, λ d h. below_one above (line n EndIf) (opened_at (suc d) above) (opened (suc d) (omega arith)))
later n EndWhile above ls [] g t opened = cc
later n EndWhile above ls (b ∷ bs) g t opened = (bs, (and_parts (is_while b) (nested bs ls) t).1, λ d h. below_one above (line n EndWhile) (opened_at (suc d) above) (opened (suc d) (omega arith)))
later n EndProc above ls blocks g t opened = cc
later n Skip above ls blocks g t opened = (blocks, t, λ d h. below_one above (line n Skip) (opened_at d above) (opened d h))
later n (Assign targets values) above ls blocks g t opened = (blocks, t, λ d h. below_one above (line n (Assign targets values)) (opened_at d above) (opened d h))
later n (Goto lines) above ls blocks g t opened = (blocks, t, λ d h. below_one above (line n (Goto lines)) (opened_at d above) (opened d h))
later n (Assume e) above ls blocks g t opened = (blocks, t, λ d h. below_one above (line n (Assume e)) (opened_at d above) (opened d h))
later n (Assert e) above ls blocks g t opened = (blocks, t, λ d h. below_one above (line n (Assert e)) (opened_at d above) (opened d h))
later n (Call targets callee arguments) above ls blocks g t opened = (blocks, t, λ d h. below_one above (line n (Call targets callee arguments)) (opened_at d above) (opened d h))
later n (Return values) above ls blocks g t opened = (blocks, t, λ d h. below_one above (line n (Return values)) (opened_at d above) (opened d h))

pub last : (n : BodyLine) (s : Statement) (ls : List BodyLine) (blocks : List Block) → goes_on s ≡ false → nested blocks (line n s ∷ ls) ≡ true → ls ≡ []
last n EndProc [] [] g t = refl
last n EndProc (l ∷ ls) [] g t = cc
last n EndProc ls (b ∷ bs) g t = cc
last n (If c) ls blocks g t = cc
last n (While c) ls blocks g t = cc
last n Else ls blocks g t = cc
last n EndIf ls blocks g t = cc
last n EndWhile ls blocks g t = cc
last n Skip ls blocks g t = cc
last n (Assign targets values) ls blocks g t = cc
last n (Goto lines) ls blocks g t = cc
last n (Assume e) ls blocks g t = cc
last n (Assert e) ls blocks g t = cc
last n (Call targets callee arguments) ls blocks g t = cc
last n (Return values) ls blocks g t = cc

-- ---- each line of a body

module _ (P : ℕ → Type 0) where
  abbrev pub All : List BodyLine → Type 0
  All ls = Each (λ (l : BodyLine). P l.line) ls

  first_has : (ls ms : List BodyLine) → All ls → Goes ms ls → P (first_line ms)
  first_has ls [] all goes = let e : false ≡ true = goes.1 in cc
  first_has ls (m ∷ ms) all goes = subst (λ (xs : List BodyLine). All xs) (sym goes.2.1) all (length goes.2.0) m (seam goes.2.0 m ms)
    where
      seam : (front : List BodyLine) (m : BodyLine) (ms : List BodyLine) → slice_get (front ++ m ∷ ms) (length front) ≡ Some m
      seam [] m ms = refl
      seam (f ∷ front) m ms = seam front m ms

  abbrev pub jumps : Statement → Bool
  jumps (If c) = true
  jumps (While c) = true
  jumps Else = true
  jumps EndWhile = true
  jumps s = false

  -- the lines to which a line leads have the property
  pub record IsLed (i : Instruction) : Type 0 where
    pub own : P i.line
    pub next : goes_on i.statement ≡ true → P i.next
    pub other : jumps i.statement ≡ true → P i.other

  other_has : (n : BodyLine) (s : Statement) (above ls : List BodyLine) (blocks : List Block) → nested blocks (line n s ∷ ls) ≡ true → Opened above (length blocks) → All above → All ls → jumps s ≡ true → P (other_line above s ls)
  other_has n (If c) above ls blocks t opened all_above all j = first_has ls (behind_else 0 ls) all (elses ls 0 (InIf ∷ blocks) (omega arith) t)
  other_has n (While c) above ls blocks t opened all_above all j = first_has ls (behind_end 0 ls) all (ends ls 0 (InWhile ∷ blocks) (omega arith) t)
  other_has n Else above ls [] t opened all_above all j = cc
  other_has n Else above ls (b ∷ bs) t opened all_above all j =
      first_has ls (behind_end 0 ls) all (ends ls 0 (InElse ∷ bs) (omega arith) (and_parts (is_if b) (nested (InElse ∷ bs) ls) t).1)
  other_has n EndWhile above ls [] t opened all_above all j = cc
  other_has n EndWhile above ls (b ∷ bs) t opened all_above all j =
      let there = opened 0 (omega arith) in subst P there.3 (all_above there.0 there.1 there.2)
  other_has n EndIf above ls blocks t opened all_above all j = cc
  other_has n EndProc above ls blocks t opened all_above all j = cc
  other_has n Skip above ls blocks t opened all_above all j = cc
  other_has n (Assign targets values) above ls blocks t opened all_above all j = cc
  other_has n (Goto lines) above ls blocks t opened all_above all j = cc
  other_has n (Assume e) above ls blocks t opened all_above all j = cc
  other_has n (Assert e) above ls blocks t opened all_above all j = cc
  other_has n (Call targets callee arguments) above ls blocks t opened all_above all j = cc
  other_has n (Return values) above ls blocks t opened all_above all j = cc

  all_with : (l : BodyLine) (above : List BodyLine) → P l.line → All above → All (l ∷ above)
  all_with l above own all zero m e = subst (λ (x : BodyLine). P x.line) (same_Some l m e) own
  all_with l above own all (suc j) m e = all j m e

  pub led : (k : ℕ) (ls above : List BodyLine) (blocks : List Block) → nested blocks ls ≡ true → Opened above (length blocks) → All above → All ls → Each IsLed (instructions k above ls)
  led k [] above blocks t opened all_above all j i e = cc
  led k (l ∷ ls) above blocks t opened all_above all zero i e =
      subst IsLed (same_Some _ i e) (record {
        own = all 0 l refl;
        next = λ g. let more = later l l.statement above ls blocks g t opened in first_has ls ls (λ j m h. all (suc j) m h) (more.0, more.1, ([], refl));
        other = λ h. other_has l l.statement above ls blocks t opened all_above (λ j m d. all (suc j) m d) h;
      })
  led k (l ∷ ls) above blocks t opened all_above all (suc j) i e =
      by_kind (goes_on l.statement) refl (λ more. led k ls (l ∷ above) more.0 more.1 more.2 (all_with l above (all 0 l refl) all_above) (λ m x h. all (suc m) x h) j i e)
    where
      by_kind : (b : Bool) → goes_on l.statement ≡ b → (Later l l.statement above ls → IsLed i) → IsLed i
      by_kind true g more = more (later l l.statement above ls blocks g t opened)
      by_kind false g more =
          let none : ls ≡ [] = last l l.statement ls blocks g t in
          let nothing : slice_get (instructions k (l ∷ above) []) j ≡ Some i = subst (λ (xs : List BodyLine). slice_get (instructions k (l ∷ above) xs) j ≡ Some i) none e in
          absurd (empty j i nothing)
        where
          empty : (j : ℕ) (i : Instruction) → slice_get (instructions k (l ∷ above) []) j ≡ Some i → ⊥
          empty j i h = cc
