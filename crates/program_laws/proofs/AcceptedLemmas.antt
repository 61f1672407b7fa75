-- The lines of a program that is read are accepted, and nothing is missing behind them.
use Rattle.std.proofs.Common.{◌≡◌, ℕ, ◌+◌, ◌<◌, ◌≤◌, Bool, true, false, cond, List, [], ◌∷◌, ◌++◌, length, map, filter, None, Some, Option, Ok, Err, refl, sym, ap, ◌∙◌, subst, arith}
use Rattle.std.specs.Prelude.{option_map, codes, is_none, ◌==◌}
use Rattle.std.specs.Prelude.{Result, nat_lt}
use Rattle.std.proofs.lemmas.Bool.{ltb-false}
use Rattle.std.proofs.lemmas.List.Sums.{sum_by-append}
use Rattle.wpds_base.specs.Faults.{first_fault}
use Rattle.wpds_port.specs.declared.Kind.{Kind}
use Rattle.wpds_port.specs.declared.Kind.TheVariants.{TooLong, NotText, Form, Unknown, NothingAsked}
use Rattle.wpds_port.specs.declared.Refusal.{Refusal}
use Rattle.wpds_port.specs.Refusals.{refusal}
use Rattle.document_forms.specs.Lines.{Line, lines, numbered, counts}
use Rattle.document_forms.specs.FirstRefusal.{is_short}
use Rattle.boolean_programs.specs.declared.program.Program.{Program}
use Rattle.boolean_programs.specs.Structure.{Block}
use Rattle.program_forms.specs.Forms.{LineForm, GlobalForm, ProcForm, LocalForm, Stating, ElseForm, EndForm, QueryForm}
use Rattle.program_forms.specs.Places.{Said, said, Place, at_top, Stated, fits, next_place, Judged, judged_form, judged, place_behind, judged_from, stated}
use Rattle.program_forms.specs.Declared.{proc_named, Whole, whole}
use Rattle.program_forms.specs.Above.{is_proc, closes_proc, queries, begun, closed}
use Rattle.program_forms.specs.Kinds.{conditions}
use Rattle.program_forms.specs.FirstRefusal.{said_lines, kind_below, first_refused, end_conditions, body_refusal, header_conditions, body, lines_refusal, refusal_of}
use Rattle.program_forms.specs.Programs.{program_of, read_as}
use Rattle.program_laws.proofs.KindLemmas.{first_false}
use Rattle.program_laws.proofs.WalkLemmas.{line, placed, place, AreAccepted}

-- ---- numbers rise

abbrev AreRising : ℕ → List Said → Type 0
AreRising n [] = Unit {0}
AreRising n (l ∷ ls) = (n < l.number) × AreRising l.number ls

rising_from : (test : Line → Bool) (n k : ℕ) → n < k → (ps : List (List ℕ)) → AreRising n (map said (filter test (numbered k ps)))
rising_from test n k h [] = tt
rising_from test n k h (p ∷ ps) = go (test (record { number = k; bytes = p })) (rising_from test k (k + 1) (omega arith) ps) (rising_from test n (k + 1) (omega arith) ps)
  where
    go : (t : Bool) → AreRising k (map said (filter test (numbered (k + 1) ps))) → AreRising n (map said (filter test (numbered (k + 1) ps)))
        → AreRising n (map said (cond t (record { number = k; bytes = p } ∷ filter test (numbered (k + 1) ps)) (filter test (numbered (k + 1) ps))))
    go true later skipped = (h, later)
    go false later skipped = skipped

rising_lower : (m n : ℕ) → m ≤ n → (ls : List Said) → AreRising n ls → AreRising m ls
rising_lower m n h [] r = tt
rising_lower m n h (l ∷ ls) r = let k = r.0 in (omega arith, r.1)

-- ---- each line has a form that fits its place, and no kind

abbrev AreTold : Whole → ℕ → List Stated → Place → List (ℕ × LineForm) → Type 0
AreTold w n above p [] = Unit {0}
AreTold w n above p (x ∷ xs) =
    (fits p x.1 ≡ true) × (n < x.0) × (first_fault (conditions w above p.begun x.1) ≡ None) × AreTold w x.0 (above ++ line p x.0 x.1 ∷ []) (next_place p x.1) xs

judged_fits : (p : Place) (l : Said) (s : Stated) → judged p l ≡ Ok s → (f : LineForm) × (s ≡ line p l.number f) × (fits p f ≡ true)
judged_fits p l s e = by_text l.text e
  where
    by_fit : (f : LineForm) (b : Bool) → fits p f ≡ b → cond {A = Judged} b (Ok (line p l.number f)) (Err (l.number, Form)) ≡ Ok s → (g : LineForm) × (s ≡ line p l.number g) × (fits p g ≡ true)
    by_fit f true h k = let same : line p l.number f ≡ s = cc in (f, sym same, h)
    by_fit f false h k = cc

    by_form : (o : Option LineForm) → judged_form p l.number o ≡ Ok s → (g : LineForm) × (s ≡ line p l.number g) × (fits p g ≡ true)
    by_form None k = cc
    by_form (Some f) k = by_fit f (fits p f) refl k

    by_text : (t : Bool) → cond {A = Judged} t (judged_form p l.number l.form) (Err (l.number, NotText)) ≡ Ok s → (g : LineForm) × (s ≡ line p l.number g) × (fits p g ≡ true)
    by_text true k = by_form l.form k
    by_text false k = cc

module _ (w : Whole) where
  abbrev Tells : ℕ → List Stated → Place → List Judged → Type 0
  Tells n above p js = (xs : List (ℕ × LineForm)) × (stated js ≡ placed p xs) × AreTold w n above p xs

  accepted_first : (above : List Stated) (s : Stated) (js : List Judged) → first_refused w above (Ok s ∷ js) ≡ None → (kind_below w above s ≡ None) × (first_refused w (above ++ s ∷ []) js ≡ None)
  accepted_first above s js e = by_kind (kind_below w above s) e
    where
      by_kind : (o : Option Kind) → (elim o as (λ _. Option Refusal) [ Some k ↦ Some (refusal s.number k) | None ↦ first_refused w (above ++ s ∷ []) js ]) ≡ None → (o ≡ None) × (first_refused w (above ++ s ∷ []) js ≡ None)
      by_kind None h = (refl, h)
      by_kind (Some k) h = cc

  told : (ls : List Said) (n : ℕ) (above : List Stated) (p : Place) → AreRising n ls → first_refused w above (judged_from p ls) ≡ None → Tells n above p (judged_from p ls)
  told [] n above p r e = ([], refl, tt)
  told (l ∷ ls) n above p r e = by_judged (judged p l) refl e (told ls l.number)
    where
      by_judged : (j : Judged) → judged p l ≡ j → first_refused w above (j ∷ judged_from (place_behind p j) ls) ≡ None
          → ((above' : List Stated) (q : Place) → AreRising l.number ls → first_refused w above' (judged_from q ls) ≡ None → Tells l.number above' q (judged_from q ls))
          → Tells n above p (j ∷ judged_from (place_behind p j) ls)
      by_judged (Err x) s k more = cc
      by_judged (Ok y) s k more =
          let fit = judged_fits p l y s in
          let f = fit.0 in
          let parts = accepted_first above y (judged_from (next_place p y.form) ls) k in
          let kept : (kind_below w above (line p l.number f) ≡ None) × (first_refused w (above ++ line p l.number f ∷ []) (judged_from (next_place p f) ls) ≡ None) =
          subst (λ (z : Stated). (kind_below w above z ≡ None) × (first_refused w (above ++ z ∷ []) (judged_from (next_place p z.form) ls) ≡ None)) fit.1 parts in
          let later = more (above ++ line p l.number f ∷ []) (next_place p f) r.1 kept.1 in
          let same : stated (Ok y ∷ judged_from (next_place p y.form) ls) ≡ line p l.number f ∷ placed (next_place p f) later.0 =
          ap (λ (z : Stated). z ∷ stated (judged_from (next_place p z.form) ls)) fit.1 ∙ ap (λ (ss : List Stated). line p l.number f ∷ ss) later.1 in
          ((l.number, f) ∷ later.0, same, (fit.2, r.0, kept.0, later.2))

-- ---- each procedure is ended

abbrev AreEnded : Place → List (ℕ × LineForm) → Type 0
AreEnded p [] = p.inside ≡ false
AreEnded p (x ∷ xs) = (is_proc x.1 ≡ true → p.inside ≡ false) × AreEnded (next_place p x.1) xs

abbrev bit : Bool → ℕ
bit false = 0
bit true = 1

abbrev Counts : Place → ℕ → LineForm → List Stated → Type 0
Counts p m f ls =
    (closed (line p m f ∷ ls) ≤ begun (line p m f ∷ ls) + bit p.inside)
    × (begun (line p m f ∷ ls) + bit p.inside ≤ closed (line p m f ∷ ls) → (begun ls + bit (next_place p f).inside ≤ closed ls) × (is_proc f ≡ true → p.inside ≡ false))

begun_more : (l : Stated) (ls : List Stated) → begun (l ∷ ls) ≡ cond (is_proc l.form) 1 0 + begun ls
begun_more l ls = let e = sum_by-append (λ (m : Stated). cond (is_proc m.form) 1 0) (l ∷ []) ls in omega arith

closed_more : (l : Stated) (ls : List Stated) → closed (l ∷ ls) ≡ cond (closes_proc l.form l.place.blocks) 1 0 + closed ls
closed_more l ls = let e = sum_by-append (λ (m : Stated). cond (closes_proc m.form m.place.blocks) 1 0) (l ∷ []) ls in omega arith

count_step : (k : ℕ) (inside heading : Bool) (blocks : List Block) (m : ℕ) (f : LineForm) (ls : List Stated) → fits (place k inside heading blocks) f ≡ true → closed ls ≤ begun ls + bit (next_place (place k inside heading blocks) f).inside
    → Counts (place k inside heading blocks) m f ls
count_step k false heading blocks m (GlobalForm xs) ls h c = (omega arith, λ d. (omega arith, λ e. cc))
count_step k false heading blocks m (QueryForm fails x) ls h c = (omega arith, λ d. (omega arith, λ e. cc))
count_step k false heading blocks m (ProcForm g ps r) ls h c =
    let l = line (place k false heading blocks) m (ProcForm g ps r) in
    let more = begun_more l ls in
    (omega arith, λ d. (omega arith, λ e. refl))
count_step k false heading blocks m (LocalForm xs) ls h c = cc
count_step k false heading blocks m (Stating x s) ls h c = cc
count_step k false heading blocks m ElseForm ls h c = cc
count_step k false heading blocks m EndForm ls h c = cc
count_step k true heading blocks m (GlobalForm xs) ls h c = cc
count_step k true heading blocks m (QueryForm fails x) ls h c = cc
count_step k true heading blocks m (ProcForm g ps r) ls h c =
    let l = line (place k true heading blocks) m (ProcForm g ps r) in
    let more = begun_more l ls in
    (omega arith, λ d. absurd (omega arith))
count_step k true heading blocks m (LocalForm xs) ls h c = (omega arith, λ d. (omega arith, λ e. cc))
count_step k true heading blocks m (Stating x s) ls h c = (omega arith, λ d. (omega arith, λ e. cc))
count_step k true heading blocks m ElseForm ls h c = (omega arith, λ d. (omega arith, λ e. cc))
count_step k true heading [] m EndForm ls h c =
    let l = line (place k true heading []) m EndForm in
    let more = closed_more l ls in
    (omega arith, λ d. (omega arith, λ e. cc))
count_step k true heading (b ∷ bs) m EndForm ls h c = (omega arith, λ d. (omega arith, λ e. cc))

module _ (w : Whole) where
  ended : (xs : List (ℕ × LineForm)) (n : ℕ) (above : List Stated) (p : Place) → AreTold w n above p xs
      → (closed (placed p xs) ≤ begun (placed p xs) + bit p.inside) × (begun (placed p xs) + bit p.inside ≤ closed (placed p xs) → AreEnded p xs)
  ended [] n above p t = (omega arith, λ h. none p.inside h)
    where
      none : (b : Bool) → 0 + bit b ≤ 0 → b ≡ false
      none false h = refl
      none true h = absurd (omega arith)
  ended (x ∷ xs) n above p t =
      let more = ended xs x.0 (above ++ line p x.0 x.1 ∷ []) (next_place p x.1) t.3 in
      let s = count_step p.begun p.inside p.heading p.blocks x.0 x.1 (placed (next_place p x.1) xs) t.0 more.0 in
      (s.0, λ h. let k = s.1 h in (k.1, more.1 k.0))

  accepted : (xs : List (ℕ × LineForm)) (n : ℕ) (above : List Stated) (p : Place) → AreTold w n above p xs → AreEnded p xs → AreAccepted w n above p xs
  accepted [] n above p t e = e
  accepted (x ∷ xs) n above p t e = (
    record { fit = t.0; later = t.1; kind = t.2; begins = e.0 },
    accepted xs x.0 (above ++ line p x.0 x.1 ∷ []) (next_place p x.1) t.3 e.1,
  )

-- ---- from the bytes

-- the lines behind the header
abbrev pub behind_header : List Said → List Stated
behind_header ss = stated (body ss)

pub record IsAcceptedText (ss : List Said) : Type 0 where
  pub items : List (ℕ × LineForm)
  pub same : behind_header ss ≡ placed at_top items
  pub accepted : AreAccepted (whole (behind_header ss)) 0 [] at_top items
  pub main : is_none (proc_named (whole (behind_header ss)).procs (codes "main")) ≡ false
  pub asked : (queries (behind_header ss) == 0) ≡ false

body_parts : (after : ℕ) (w : Whole) (js : List Judged) → body_refusal after w js ≡ None → (first_refused w [] js ≡ None) × (first_fault (end_conditions w (stated js)) ≡ None)
body_parts after w js e = by_first (first_refused w [] js) e
  where
    by_end : (o : Option Kind) → option_map (refusal after) o ≡ None → o ≡ None
    by_end None h = refl
    by_end (Some k) h = cc

    by_first : (o : Option Refusal) → (elim o as (λ _. Option Refusal) [ Some r ↦ Some r | None ↦ option_map (refusal after) (first_fault (end_conditions w (stated js))) ]) ≡ None → (o ≡ None) × (first_fault (end_conditions w (stated js)) ≡ None)
    by_first (Some r) h = cc
    by_first None h = (refl, by_end (first_fault (end_conditions w (stated js))) h)

accepted_lines : (after : ℕ) (ss : List Said) → AreRising 0 ss → lines_refusal after ss ≡ None → IsAcceptedText ss
accepted_lines after [] r e = cc
accepted_lines after (h ∷ ls) r e = by_header (first_fault (header_conditions h)) e
  where
    of_body : body_refusal after (whole (stated (judged_from at_top ls))) (judged_from at_top ls) ≡ None → IsAcceptedText (h ∷ ls)
    of_body k =
        let all = stated (judged_from at_top ls) in
        let w = whole all in
        let parts = body_parts after w (judged_from at_top ls) k in
        let lines = told w ls 0 [] at_top (rising_lower 0 h.number (omega arith) ls r.1) parts.0 in
        let ends = first_false (nat_lt (closed all) (begun all)) Form ((is_none (proc_named w.procs (codes "main")), Unknown) ∷ (queries all == 0, NothingAsked) ∷ []) parts.1 in
        let main = first_false (is_none (proc_named w.procs (codes "main"))) Unknown ((queries all == 0, NothingAsked) ∷ []) ends.1 in
        let asked = first_false (queries all == 0) NothingAsked [] main.1 in
        let enough : begun all ≤ closed all = ltb-false (closed all) (begun all) ends.0 in
        let full : begun (placed at_top lines.0) + bit false ≤ closed (placed at_top lines.0) =
        subst (λ (ss : List Stated). begun ss + bit false ≤ closed ss) lines.1 (omega arith) in
        record {
          items = lines.0;
          same = lines.1;
          accepted = accepted w lines.0 0 [] at_top lines.2 ((ended w lines.0 0 [] at_top lines.2).1 full);
          main = main.0;
          asked = asked.0;
        }

    by_header : (o : Option Kind) → (elim o as (λ _. Option Refusal) [ Some k ↦ Some (refusal h.number k) | None ↦ body_refusal after (whole (stated (judged_from at_top ls))) (judged_from at_top ls) ]) ≡ None → IsAcceptedText (h ∷ ls)
    by_header (Some k) g = cc
    by_header None g = of_body g

accepted_text : (bytes : List ℕ) → refusal_of bytes ≡ None → IsAcceptedText (said_lines bytes)
accepted_text bytes e = by_short (is_short bytes) e
  where
    by_short : (t : Bool) → (elim t as (λ _. Option Refusal) [ false ↦ Some (refusal 0 TooLong) | true ↦ lines_refusal (length (lines bytes) + 1) (said_lines bytes) ]) ≡ None → IsAcceptedText (said_lines bytes)
    by_short false h = cc
    by_short true h = accepted_lines (length (lines bytes) + 1) (said_lines bytes) (rising_from (λ l. counts l.bytes) 0 1 (omega arith) (lines bytes)) h

pub read_text : (bytes : List ℕ) (p : Program) → read_as bytes ≡ Ok p → IsAcceptedText (said_lines bytes) × (program_of (behind_header (said_lines bytes)) ≡ p)
read_text bytes p e = by_refusal (refusal_of bytes) refl e
  where
    by_refusal : (o : Option Refusal) → refusal_of bytes ≡ o → (elim o as (λ _. Result Program Refusal) [ Some r ↦ Err r | None ↦ Ok (program_of (behind_header (said_lines bytes))) ]) ≡ Ok p → IsAcceptedText (said_lines bytes) × (program_of (behind_header (said_lines bytes)) ≡ p)
    by_refusal (Some r) s h = cc
    by_refusal None s h =
        let same : program_of (behind_header (said_lines bytes)) ≡ p = cc in
        (accepted_text bytes s, same)
