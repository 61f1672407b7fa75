-- Accepted lines, one after the other, and what stands behind them.
use Rattle.std.proofs.Common.{◌≡◌, ℕ, suc, ◌+◌, ◌<◌, Bool, true, false, List, [], ◌∷◌, ◌++◌, length, None, Option, refl, sym, ap, ◌∙◌, subst, arith, append_assoc, append-nil}
use Rattle.std.proofs.lemmas.List.{length-append}
use Rattle.std.proofs.lemmas.Grind.{flat_map-append}
use Rattle.wpds_base.specs.Faults.{first_fault}
use Rattle.boolean_programs.specs.declared.program.Proc.{Proc}
use Rattle.boolean_programs.specs.declared.program.BodyLine.{BodyLine}
use Rattle.boolean_programs.specs.declared.statement.Statement.TheVariants.{Else, EndProc}
use Rattle.boolean_programs.specs.Structure.{Block, InIf, InElse, InWhile}
use Rattle.program_forms.specs.Forms.{StatementForm, LineForm, GlobalForm, ProcForm, LocalForm, Stating, ElseForm, EndForm, QueryForm}
use Rattle.program_forms.specs.Places.{Place, at_top, Stated, fits, opened, next_place}
use Rattle.program_forms.specs.Declared.{ProcHead, procs_on, procs, Whole}
use Rattle.program_forms.specs.Above.{names_after, names_behind, own_names, returns_after, returns_behind, own_returns, is_proc}
use Rattle.program_forms.specs.Kinds.{conditions}
use Rattle.program_forms.specs.Programs.{statement_value, end_of, body_line, with_locals, with_body, on_last, procs_with, procs_behind, procs_in}

-- ---- lines by their numbers and forms

abbrev pub line : Place → ℕ → LineForm → Stated
line p m f = record { number = m; form = f; place = p }

-- lines from a place on
abbrev pub placed : Place → List (ℕ × LineForm) → List Stated
placed p [] = []
placed p (x ∷ xs) = line p x.0 x.1 ∷ placed (next_place p x.1) xs

-- A line that is accepted at a place below others, whose numbers are n at most, and cuts no procedure off.
pub record IsAccepted (w : Whole) (n : ℕ) (above : List Stated) (p : Place) (m : ℕ) (f : LineForm) : Type 0 where
  pub fit : fits p f ≡ true
  pub later : n < m
  pub kind : first_fault (conditions w above p.begun f) ≡ None
  pub begins : is_proc f ≡ true → p.inside ≡ false

-- All are accepted, and each procedure is ended.
abbrev pub AreAccepted : Whole → ℕ → List Stated → Place → List (ℕ × LineForm) → Type 0
AreAccepted w n above p [] = p.inside ≡ false
AreAccepted w n above p (x ∷ xs) = IsAccepted w n above p x.0 x.1 × AreAccepted w x.0 (above ++ line p x.0 x.1 ∷ []) (next_place p x.1) xs

-- ---- what stands above, with a line more

names_more : (own : List (List ℕ)) (above : List Stated) (l : Stated) → names_behind own (above ++ l ∷ []) ≡ names_after (names_behind own above) l.form
names_more own [] l = refl
names_more own (a ∷ above) l = names_more (names_after own a.form) above l

pub own_more : (above : List Stated) (l : Stated) → own_names (above ++ l ∷ []) ≡ names_after (own_names above) l.form
own_more above l = names_more [] above l

returns_more : (n : ℕ) (above : List Stated) (l : Stated) → returns_behind n (above ++ l ∷ []) ≡ returns_after (returns_behind n above) l.form
returns_more n [] l = refl
returns_more n (a ∷ above) l = returns_more (returns_after n a.form) above l

pub own_returns_more : (above : List Stated) (l : Stated) → own_returns (above ++ l ∷ []) ≡ returns_after (own_returns above) l.form
own_returns_more above l = returns_more 0 above l

pub procs_more : (above : List Stated) (l : Stated) → procs (above ++ l ∷ []) ≡ procs above ++ procs_on l.place.begun l.form
procs_more above l =
    flat_map-append (λ (m : Stated). procs_on m.place.begun m.form) above (l ∷ [])
    ∙ ap (λ hs. procs above ++ hs) (append-nil (procs_on l.place.begun l.form))

-- ---- the procedures by their `proc` lines

abbrev pub head : ℕ → Proc → ProcHead
head k q = record { name = q.name; params = q.params; returns = q.returns; place = k }

abbrev pub heads : ℕ → List Proc → List ProcHead
heads k [] = []
heads k (q ∷ qs) = head k q ∷ heads (suc k) qs

pub heads_more : (k : ℕ) (qs : List Proc) (q : Proc) → heads k (qs ++ q ∷ []) ≡ heads k qs ++ head (k + length qs) q ∷ []
heads_more k [] q = ap (λ n. head n q ∷ []) (omega arith)
heads_more k (r ∷ qs) q =
    let more : suc k + length qs ≡ k + length (r ∷ qs) = omega arith in
    ap (λ hs. head k r ∷ hs) (heads_more (suc k) qs q ∙ ap (λ n. heads (suc k) qs ++ head n q ∷ []) more)

-- ---- procedures so far: all ended, or the last not yet

pub record IsClosed (above : List Stated) (begun : ℕ) (qs : List Proc) : Type 0 where
  pub count : length qs ≡ begun
  pub told : heads 0 qs ≡ procs above

pub record IsOpen (above : List Stated) (begun : ℕ) (heading : Bool) (done : List Proc) (last : Proc) : Type 0 where
  pub count : length done + 1 ≡ begun
  pub told : heads 0 (done ++ last ∷ []) ≡ procs above
  pub names : own_names above ≡ last.params ++ last.locals
  pub returns : own_returns above ≡ last.returns
  pub empty : heading ≡ true → last.body ≡ []

abbrev pub fresh : List ℕ → List (List ℕ) → ℕ → Proc
fresh g ps k = record { name = g; params = ps; locals = []; returns = k; body = [] }

abbrev pub is_outer : LineForm → Bool
is_outer (GlobalForm xs) = true
is_outer (QueryForm fails l) = true
is_outer f = false

-- ---- the last procedure

pub on_the_last : (f : Proc → Proc) (done : List Proc) (q : Proc) → on_last f (done ++ q ∷ []) ≡ done ++ f q ∷ []
on_the_last f [] q = refl
on_the_last f (d ∷ []) q = refl
on_the_last f (d ∷ e ∷ done) q = ap (λ qs. d ∷ qs) (on_the_last f (e ∷ done) q)

pub nothing_added : (qs : List Proc) → on_last (with_body []) qs ≡ qs
nothing_added [] = refl
nothing_added (q ∷ []) = ap (λ (ls : List BodyLine). record q { body = ls } ∷ []) (append-nil q.body)
nothing_added (q ∷ r ∷ qs) = ap (λ qs. q ∷ qs) (nothing_added (r ∷ qs))

-- ---- properties that each line keeps

-- Properties of the procedures where all are ended, and where the last is not; with the number of the last line, the
-- lines, and the open blocks.
pub record Keeps (w : Whole) (Closed : ℕ → List Stated → List Proc → Type 0) (Open : ℕ → List Stated → List Block → List Proc → Proc → Type 0) : Type 0 where
  pub outer : (n : ℕ) (above : List Stated) (p : Place) (qs : List Proc) (m : ℕ) (f : LineForm) → IsAccepted w n above p m f → is_outer f ≡ true → IsClosed above p.begun qs → Closed n above qs
      → Closed m (above ++ line p m f ∷ []) qs
  pub begin : (n : ℕ) (above : List Stated) (p : Place) (qs : List Proc) (m : ℕ) (g : List ℕ) (ps : List (List ℕ)) (k : ℕ) → IsAccepted w n above p m (ProcForm g ps k) → IsClosed above p.begun qs → Closed n above qs
      → Open m (above ++ line p m (ProcForm g ps k) ∷ []) [] qs (fresh g ps k)
  pub name : (n : ℕ) (above : List Stated) (p : Place) (done : List Proc) (last : Proc) (m : ℕ) (xs : List (List ℕ)) → IsAccepted w n above p m (LocalForm xs) → IsOpen above p.begun p.heading done last → last.body ≡ [] → Open n above p.blocks done last
      → Open m (above ++ line p m (LocalForm xs) ∷ []) p.blocks done (with_locals xs last)
  pub say : (n : ℕ) (above : List Stated) (p : Place) (done : List Proc) (last : Proc) (m : ℕ) (label : Option (List ℕ)) (s : StatementForm) → IsAccepted w n above p m (Stating label s) → IsOpen above p.begun p.heading done last → Open n above p.blocks done last
      → Open m (above ++ line p m (Stating label s) ∷ []) (opened s p.blocks) done (with_body (body_line m label (statement_value w (w.globals ++ own_names above) s)) last)
  pub turn : (n : ℕ) (above : List Stated) (p : Place) (done : List Proc) (last : Proc) (m : ℕ) (bs : List Block) → IsAccepted w n above p m ElseForm → IsOpen above p.begun p.heading done last → Open n above (InIf ∷ bs) done last
      → Open m (above ++ line p m ElseForm ∷ []) (InElse ∷ bs) done (with_body (body_line m None Else) last)
  pub close : (n : ℕ) (above : List Stated) (p : Place) (done : List Proc) (last : Proc) (m : ℕ) (b : Block) (bs : List Block) → IsAccepted w n above p m EndForm → IsOpen above p.begun p.heading done last → Open n above (b ∷ bs) done last
      → Open m (above ++ line p m EndForm ∷ []) bs done (with_body (body_line m None (end_of (b ∷ bs))) last)
  pub end : (n : ℕ) (above : List Stated) (p : Place) (done : List Proc) (last : Proc) (m : ℕ) → IsAccepted w n above p m EndForm → IsOpen above p.begun p.heading done last → Open n above [] done last
      → Closed m (above ++ line p m EndForm ∷ []) (done ++ with_body (body_line m None EndProc) last ∷ [])

abbrev pub place : ℕ → Bool → Bool → List Block → Place
place begun inside heading blocks = record { begun = begun; inside = inside; heading = heading; blocks = blocks }

module _ (w : Whole) (Closed : ℕ → List Stated → List Proc → Type 0) (Open : ℕ → List Stated → List Block → List Proc → Proc → Type 0) (keeps : Keeps w Closed Open) where
  -- what holds of the procedures at a place
  abbrev At : ℕ → List Stated → ℕ → Bool → Bool → List Block → List Proc → Type 0
  At n above begun false heading blocks qs = IsClosed above begun qs × Closed n above qs
  At n above begun true heading blocks qs =
      (done : List Proc) × (last : Proc) × (qs ≡ done ++ last ∷ []) × IsOpen above begun heading done last × Open n above blocks done last

  abbrev AtPlace : ℕ → List Stated → Place → List Proc → Type 0
  AtPlace n above p qs = At n above p.begun p.inside p.heading p.blocks qs

  -- the procedures stay, and a line outside them stands above
  outside : (n : ℕ) (above : List Stated) (begun : ℕ) (heading : Bool) (blocks : List Block) (qs : List Proc) (m : ℕ) (f : LineForm) → IsAccepted w n above (place begun false heading blocks) m f → is_outer f ≡ true → procs_on begun f ≡ []
      → IsClosed above begun qs → Closed n above qs → IsClosed (above ++ line (place begun false heading blocks) m f ∷ []) begun qs × Closed m (above ++ line (place begun false heading blocks) m f ∷ []) qs
  outside n above begun heading blocks qs m f a o none c x =
      let l = line (place begun false heading blocks) m f in (
        record { count = c.count; told = c.told ∙ sym (append-nil (procs above)) ∙ ap (λ hs. procs above ++ hs) (sym none) ∙ sym (procs_more above l) },
        keeps.outer n above (place begun false heading blocks) qs m f a o c x,
      )

  -- the last procedure with a line of its body more is told by the same lines
  inside_more : (above : List Stated) (begun : ℕ) (heading : Bool) (done : List Proc) (last : Proc) (l : Stated) (ls : List BodyLine) → procs_on l.place.begun l.form ≡ [] → names_after (own_names above) l.form ≡ own_names above → returns_after (own_returns above) l.form ≡ own_returns above
      → IsOpen above begun heading done last → IsOpen (above ++ l ∷ []) begun false done (with_body ls last)
  inside_more above begun heading done last l ls none same_names same_returns o = record {
    count = o.count;
    told = heads_more 0 done (with_body ls last) ∙ sym (heads_more 0 done last) ∙ o.told ∙ sym (append-nil (procs above)) ∙ ap (λ hs. procs above ++ hs) (sym none) ∙ sym (procs_more above l);
    names = own_more above l ∙ same_names ∙ o.names;
    returns = own_returns_more above l ∙ same_returns ∙ o.returns;
    empty = λ h. cc;
  }

  step : (n : ℕ) (above : List Stated) (begun : ℕ) (inside heading : Bool) (blocks : List Block) (qs : List Proc) (m : ℕ) (f : LineForm) → IsAccepted w n above (place begun inside heading blocks) m f → At n above begun inside heading blocks qs
      → AtPlace m (above ++ line (place begun inside heading blocks) m f ∷ []) (next_place (place begun inside heading blocks) f) (procs_with w above (line (place begun inside heading blocks) m f) f qs)
  step n above begun false heading blocks qs m (GlobalForm xs) a t =
      rw nothing_added (outside n above begun heading blocks qs m (GlobalForm xs) a refl refl t.0 t.1)
  step n above begun false heading blocks qs m (QueryForm fails x) a t =
      rw nothing_added (outside n above begun heading blocks qs m (QueryForm fails x) a refl refl t.0 t.1)
  step n above begun false heading blocks qs m (ProcForm g ps k) a t =
      let l = line (place begun false heading blocks) m (ProcForm g ps k) in (
        qs,
        fresh g ps k,
        refl,
        record {
          count = let c = t.0.count in omega arith;
          told = heads_more 0 qs (fresh g ps k) ∙ ap (λ n. heads 0 qs ++ head n (fresh g ps k) ∷ []) (let c = t.0.count in omega arith) ∙ ap (λ hs. hs ++ head begun (fresh g ps k) ∷ []) t.0.told ∙ sym (procs_more above l);
          names = own_more above l ∙ sym (append-nil ps);
          returns = own_returns_more above l;
          empty = λ h. refl;
        },
        keeps.begin n above (place begun false heading blocks) qs m g ps k a t.0 t.1,
      )
  step n above begun false heading blocks qs m (LocalForm xs) a t = let h = a.fit in cc
  step n above begun false heading blocks qs m (Stating label s) a t = let h = a.fit in cc
  step n above begun false heading blocks qs m ElseForm a t = let h = a.fit in cc
  step n above begun false heading blocks qs m EndForm a t = let h = a.fit in cc
  step n above begun true heading blocks qs m (GlobalForm xs) a t = let h = a.fit in cc
  step n above begun true heading blocks qs m (QueryForm fails x) a t = let h = a.fit in cc
  step n above begun true heading blocks qs m (ProcForm g ps k) a t = let h = a.begins refl in cc
  step n above begun true heading blocks qs m (LocalForm xs) a (done, last, e, o, x) =
      let p = place begun true heading blocks in
      let l = line p m (LocalForm xs) in (
        done,
        with_locals xs last,
        ap (on_last (with_locals xs)) e ∙ on_the_last (with_locals xs) done last,
        record {
          count = o.count;
          told = heads_more 0 done (with_locals xs last) ∙ sym (heads_more 0 done last) ∙ o.told ∙ sym (append-nil (procs above)) ∙ sym (procs_more above l);
          names = own_more above l ∙ ap (λ ns. ns ++ xs) o.names ∙ append_assoc last.params last.locals xs;
          returns = own_returns_more above l ∙ o.returns;
          empty = o.empty;
        },
        keeps.name n above p done last m xs a o (o.empty a.fit) x,
      )
  step n above begun true heading blocks qs m (Stating label s) a (done, last, e, o, x) =
      let p = place begun true heading blocks in
      let l = line p m (Stating label s) in
      let ls = body_line m label (statement_value w (w.globals ++ own_names above) s) in (
        done,
        with_body ls last,
        ap (on_last (with_body ls)) e ∙ on_the_last (with_body ls) done last,
        inside_more above begun heading done last l ls refl refl refl o,
        keeps.say n above p done last m label s a o x,
      )
  step n above begun true heading [] qs m ElseForm a t = let h = a.fit in cc
  step n above begun true heading (InElse ∷ bs) qs m ElseForm a t = let h = a.fit in cc
  step n above begun true heading (InWhile ∷ bs) qs m ElseForm a t = let h = a.fit in cc
  step n above begun true heading (InIf ∷ bs) qs m ElseForm a (done, last, e, o, x) =
      let p = place begun true heading (InIf ∷ bs) in
      let l = line p m ElseForm in
      let ls = body_line m None Else in (
        done,
        with_body ls last,
        ap (on_last (with_body ls)) e ∙ on_the_last (with_body ls) done last,
        inside_more above begun heading done last l ls refl refl refl o,
        keeps.turn n above p done last m bs a o x,
      )
  step n above begun true heading (b ∷ bs) qs m EndForm a (done, last, e, o, x) =
      let p = place begun true heading (b ∷ bs) in
      let l = line p m EndForm in
      let ls = body_line m None (end_of (b ∷ bs)) in (
        done,
        with_body ls last,
        ap (on_last (with_body ls)) e ∙ on_the_last (with_body ls) done last,
        inside_more above begun heading done last l ls refl refl refl o,
        keeps.close n above p done last m b bs a o x,
      )
  step n above begun true heading [] qs m EndForm a (done, last, e, o, x) =
      let p = place begun true heading [] in
      let l = line p m EndForm in
      let ls = body_line m None EndProc in
      let more = inside_more above begun heading done last l ls refl refl refl o in
      subst (λ (rs : List Proc). IsClosed (above ++ l ∷ []) begun rs × Closed m (above ++ l ∷ []) rs)
      (sym (ap (on_last (with_body ls)) e ∙ on_the_last (with_body ls) done last)) (
        record { count = length-append done (with_body ls last ∷ []) ∙ o.count; told = more.told },
        keeps.end n above p done last m a o x,
      )

  -- behind all lines
  abbrev Ended : List Stated → List Proc → Type 0
  Ended ls qs = (m : ℕ) × (begun : ℕ) × IsClosed ls begun qs × Closed m ls qs

  walk : (xs : List (ℕ × LineForm)) (n : ℕ) (above : List Stated) (begun : ℕ) (inside heading : Bool) (blocks : List Block) (qs : List Proc) → AreAccepted w n above (place begun inside heading blocks) xs → At n above begun inside heading blocks qs
      → Ended (above ++ placed (place begun inside heading blocks) xs) (procs_behind w above qs (placed (place begun inside heading blocks) xs))
  walk [] n above begun true heading blocks qs a t = cc
  walk [] n above begun false heading blocks qs a t =
      let same = sym (append-nil above) in (
        n,
        begun,
        subst (λ (ls : List Stated). IsClosed ls begun qs) same t.0,
        subst (λ (ls : List Stated). Closed n ls qs) same t.1,
      )
  walk (x ∷ xs) n above begun inside heading blocks qs a t =
      let p = place begun inside heading blocks in
      let l = line p x.0 x.1 in
      let q = next_place p x.1 in
      subst (λ (ls : List Stated). Ended ls (procs_behind w (above ++ l ∷ []) (procs_with w above l x.1 qs) (placed q xs))) (append_assoc above (l ∷ []) (placed q xs))
      (walk xs x.0 (above ++ l ∷ []) q.begun q.inside q.heading q.blocks (procs_with w above l x.1 qs) a.1 (step n above begun inside heading blocks qs x.0 x.1 a.0 t))

  -- from the top
  pub walked : Closed 0 [] [] → (xs : List (ℕ × LineForm)) → AreAccepted w 0 [] at_top xs → Ended (placed at_top xs) (procs_in w (placed at_top xs))
  walked starts xs a = walk xs 0 [] 0 false false [] [] a (record { count = refl; told = refl }, starts)
