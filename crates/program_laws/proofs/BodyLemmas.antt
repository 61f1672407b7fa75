-- All body lines of procedures, in order, and how they grow.
use Rattle.std.proofs.Common.{◌≡◌, ℕ, suc, ◌<◌, ◌≤◌, true, List, [], ◌∷◌, ◌++◌, map, None, Option, refl, sym, ap, ◌∙◌, subst, arith, append_assoc, append-nil, flat_map}
use Rattle.std.specs.Prelude.{nat_lt}
use Rattle.std.proofs.lemmas.Bool.{lt-ltb, and_from}
use Rattle.std.proofs.lemmas.List.{map-append}
use Rattle.std.proofs.lemmas.Grind.{flat_map-append}
use Rattle.boolean_programs.specs.declared.program.Proc.{Proc}
use Rattle.boolean_programs.specs.declared.program.BodyLine.{BodyLine}
use Rattle.boolean_programs.specs.declared.statement.Statement.{Statement}
use Rattle.boolean_programs.specs.declared.statement.Statement.TheVariants.{Else, EndProc}
use Rattle.boolean_programs.specs.Programs.{procedure_of}
use Rattle.boolean_programs.specs.Lines.{Instruction, instructions, code_from}
use Rattle.boolean_programs.specs.Structure.{Block, rises}
use Rattle.program_forms.specs.Places.{Stated}
use Rattle.program_forms.specs.Declared.{Whole}
use Rattle.program_forms.specs.Above.{own_names}
use Rattle.program_forms.specs.Programs.{statement_value, end_of, body_line, with_body, with_locals}
use Rattle.program_laws.proofs.WalkLemmas.{Keeps, fresh}

abbrev pub bodies : List Proc → List BodyLine
bodies qs = flat_map (λ (q : Proc). q.body) qs

pub bodies_more : (qs : List Proc) (q : Proc) → bodies (qs ++ q ∷ []) ≡ bodies qs ++ q.body
bodies_more qs q = flat_map-append (λ (r : Proc). r.body) qs (q ∷ []) ∙ ap (λ ls. bodies qs ++ ls) (append-nil q.body)

-- a line more in the last body
pub bodies_with : (done : List Proc) (last : Proc) (ls : List BodyLine) → bodies (done ++ with_body ls last ∷ []) ≡ bodies (done ++ last ∷ []) ++ ls
bodies_with done last ls =
    bodies_more done (with_body ls last) ∙ sym (append_assoc (bodies done) last.body ls) ∙ ap (λ ms. ms ++ ls) (sym (bodies_more done last))

pub bodies_fresh : (qs : List Proc) (g : List ℕ) (ps : List (List ℕ)) (k : ℕ) → bodies (qs ++ fresh g ps k ∷ []) ≡ bodies qs
bodies_fresh qs g ps k = bodies_more qs (fresh g ps k) ∙ append-nil (bodies qs)

pub bodies_named : (done : List Proc) (last : Proc) (xs : List (List ℕ)) → bodies (done ++ with_locals xs last ∷ []) ≡ bodies (done ++ last ∷ [])
bodies_named done last xs = bodies_more done (with_locals xs last) ∙ sym (bodies_more done last)

-- ---- the code of a program has the same lines and statements

module _ {X : Type 0} (of_line : ℕ → Statement → X) where
  body_seen : (k : ℕ) (above ls : List BodyLine) → map (λ (i : Instruction). of_line i.line i.statement) (instructions k above ls) ≡ map (λ (l : BodyLine). of_line l.line l.statement) ls
  body_seen k above [] = refl
  body_seen k above (l ∷ ls) = ap (λ xs. of_line l.line l.statement ∷ xs) (body_seen k (l ∷ above) ls)

  pub code_seen : (k : ℕ) (qs : List Proc) → map (λ (i : Instruction). of_line i.line i.statement) (code_from k (map procedure_of qs)) ≡ map (λ (l : BodyLine). of_line l.line l.statement) (bodies qs)
  code_seen k [] = refl
  code_seen k (q ∷ qs) =
      map-append (λ (i : Instruction). of_line i.line i.statement) (instructions k [] q.body) (code_from (suc k) (map procedure_of qs))
      ∙ ap (λ xs. xs ++ map (λ (i : Instruction). of_line i.line i.statement) (code_from (suc k) (map procedure_of qs))) (body_seen k [] q.body)
      ∙ ap (λ xs. map (λ (l : BodyLine). of_line l.line l.statement) q.body ++ xs) (code_seen (suc k) qs)
      ∙ sym (bodies_cons q qs)
    where
      bodies_cons : (q : Proc) (qs : List Proc) → map (λ (l : BodyLine). of_line l.line l.statement) (bodies (q ∷ qs)) ≡ map (λ (l : BodyLine). of_line l.line l.statement) q.body ++ map (λ (l : BodyLine). of_line l.line l.statement) (bodies qs)
      bodies_cons q qs =
          ap (map (λ (l : BodyLine). of_line l.line l.statement)) (flat_map-append (λ (r : Proc). r.body) (q ∷ []) qs ∙ ap (λ ls. ls ++ bodies qs) (append-nil q.body))
          ∙ map-append (λ (l : BodyLine). of_line l.line l.statement) q.body (bodies qs)

-- ---- numbers rise

-- above low they rise, up to high at most
abbrev pub RisesTo : ℕ → List ℕ → ℕ → Type 0
RisesTo low [] high = low ≤ high
RisesTo low (n ∷ ns) high = (low < n) × RisesTo n ns high

rises_higher : (low : ℕ) (ns : List ℕ) (high top : ℕ) → high ≤ top → RisesTo low ns high → RisesTo low ns top
rises_higher low [] high top h r = omega arith
rises_higher low (n ∷ ns) high top h r = (r.0, rises_higher n ns high top h r.1)

rises_more : (low : ℕ) (ns : List ℕ) (high n : ℕ) → high < n → RisesTo low ns high → RisesTo low (ns ++ n ∷ []) n
rises_more low [] high n h r = (omega arith, omega arith)
rises_more low (m ∷ ns) high n h r = (r.0, rises_more m ns high n h r.1)

pub rises_to : (low : ℕ) (ns : List ℕ) (high : ℕ) → RisesTo low ns high → rises low ns ≡ true
rises_to low [] high r = refl
rises_to low (n ∷ ns) high r = and_from (nat_lt low n) (rises n ns) (lt-ltb low n r.0) (rises_to n ns high r.1)

abbrev pub numbers : List Proc → List ℕ
numbers qs = map (λ (l : BodyLine). l.line) (bodies qs)

abbrev pub AreRising : ℕ → List Stated → List Proc → Type 0
AreRising n above qs = RisesTo 0 (numbers qs) n

abbrev pub AreRisingWith : ℕ → List Stated → List Block → List Proc → Proc → Type 0
AreRisingWith n above blocks done last = RisesTo 0 (numbers (done ++ last ∷ [])) n

line_more : (done : List Proc) (last : Proc) (n m : ℕ) (label : Option (List ℕ)) (s : Statement) → n < m → RisesTo 0 (numbers (done ++ last ∷ [])) n → RisesTo 0 (numbers (done ++ with_body (body_line m label s) last ∷ [])) m
line_more done last n m label s h r =
    let numbers_of : List BodyLine → List ℕ = map (λ (l : BodyLine). l.line) in
    let same = ap numbers_of (bodies_with done last (body_line m label s)) ∙ map-append (λ (l : BodyLine). l.line) (bodies (done ++ last ∷ [])) (body_line m label s) in
    subst (λ ns. RisesTo 0 ns m) (sym same) (rises_more 0 (numbers (done ++ last ∷ [])) n m h r)

pub numbers_rise : (w : Whole) → Keeps w AreRising AreRisingWith
numbers_rise w = record {
  outer = λ n above p qs m f a o c x. let h = a.later in rises_higher 0 (numbers qs) n m (omega arith) x;
  begin = λ n above p qs m g ps k a c x.
      let h = a.later in
      subst (λ (ls : List BodyLine). RisesTo 0 (map (λ (l : BodyLine). l.line) ls) m) (sym (bodies_fresh qs g ps k)) (rises_higher 0 (numbers qs) n m (omega arith) x);
  name = λ n above p done last m xs a o e x.
      let h = a.later in
      subst (λ (ls : List BodyLine). RisesTo 0 (map (λ (l : BodyLine). l.line) ls) m) (sym (bodies_named done last xs)) (rises_higher 0 (numbers (done ++ last ∷ [])) n m (omega arith) x);
  say = λ n above p done last m label s a o x. line_more done last n m label (statement_value w (w.globals ++ own_names above) s) a.later x;
  turn = λ n above p done last m bs a o x. line_more done last n m None Else a.later x;
  close = λ n above p done last m b bs a o x. line_more done last n m None (end_of (b ∷ bs)) a.later x;
  end = λ n above p done last m a o x. line_more done last n m None EndProc a.later x;
}
