-- What lines say, with one line more.
use Rattle.std.proofs.Common.{◌≡◌, ℕ, ◌+◌, Bool, cond, List, [], ◌∷◌, ◌++◌, length, map, refl, sym, ap, ◌∙◌, append_assoc, append-nil, arith}
use Rattle.std.specs.Prelude.{flat_map, count_by}
use Rattle.std.proofs.lemmas.List.{map-append}
use Rattle.std.proofs.lemmas.List.Sums.{sum_by_push, sum_by-cons}
use Rattle.document_forms.specs.Names.{once}
use Rattle.boolean_programs.specs.declared.program.Proc.{Proc}
use Rattle.program_forms.specs.Forms.{LineForm, GlobalForm, ProcForm, LocalForm, Stating, ElseForm, EndForm, QueryForm}
use Rattle.program_forms.specs.Places.{Stated}
use Rattle.program_forms.specs.Declared.{globals_on, procs_on, labels_on, ProcHead, LabelLine, globals, procs, labels, Whole}
use Rattle.program_forms.specs.Above.{names_after, names_behind, own_names, returns_after, returns_behind, own_returns, proc_names, label_names, total, is_query, queries}
use Rattle.program_forms.specs.Programs.{procs_with, procs_behind, procs_in, asked_on}
use Rattle.program_tables.proofs.CallerLemmas.{flat_with}

names_more : (own : List (List ℕ)) (ls : List Stated) (l : Stated) → names_behind own (ls ++ l ∷ []) ≡ names_after (names_behind own ls) l.form
names_more own [] l = refl
names_more own (m ∷ ls) l = names_more (names_after own m.form) ls l

returns_more : (n : ℕ) (ls : List Stated) (l : Stated) → returns_behind n (ls ++ l ∷ []) ≡ returns_after (returns_behind n ls) l.form
returns_more n [] l = refl
returns_more n (m ∷ ls) l = returns_more (returns_after n m.form) ls l

total_more : (f : LineForm → ℕ) (ls : List Stated) (l : Stated) → total f (ls ++ l ∷ []) ≡ total f ls + f l.form
total_more f [] l = omega arith
total_more f (m ∷ ls) l = let h = total_more f ls l in omega (arith, h)

procs_more : (w : Whole) (above : List Stated) (qs : List Proc) (ls : List Stated) (l : Stated)
    → procs_behind w above qs (ls ++ l ∷ []) ≡ procs_with w (above ++ ls) l l.form (procs_behind w above qs ls)
procs_more w above qs [] l = ap (λ a. procs_with w a l l.form qs) (sym (append-nil above))
procs_more w above qs (m ∷ ls) l =
    procs_more w (above ++ m ∷ []) (procs_with w above m m.form qs) ls l
    ∙ ap (λ a. procs_with w a l l.form (procs_behind w (above ++ m ∷ []) (procs_with w above m m.form qs) ls)) (append_assoc above (m ∷ []) ls)

pub count_more : {A : Type 0} (test : A → Bool) (ls : List A) (l : A) → count_by test (ls ++ l ∷ []) ≡ count_by test ls + cond (test l) 1 0
count_more test ls l = sum_by_push (λ x. cond (test x) 1 0) ls l

-- each query asks for one point
pub asked_count : (w : Whole) (ls : List Stated) → length (flat_map (λ (m : Stated). asked_on w m.form) ls) ≡ queries ls
asked_count w [] = refl
asked_count w (l ∷ ls) = go l.form (asked_count w ls) ∙ sym (sum_by-cons (λ (m : Stated). cond (is_query m.form) 1 0) l ls)
  where
    go : (f : LineForm) → length (flat_map (λ (m : Stated). asked_on w m.form) ls) ≡ queries ls
        → length (asked_on w f ++ flat_map (λ (m : Stated). asked_on w m.form) ls) ≡ cond (is_query f) 1 0 + queries ls
    go (QueryForm fails x) h = omega (arith, h)
    go (GlobalForm xs) h = omega (arith, h)
    go (ProcForm g ps n) h = omega (arith, h)
    go (LocalForm xs) h = omega (arith, h)
    go (Stating x s) h = omega (arith, h)
    go ElseForm h = omega (arith, h)
    go EndForm h = omega (arith, h)

-- ---- by the form of the line

module _ (w : Whole) (ls : List Stated) (l : Stated) (f : LineForm) (e : l.form ≡ f)
  where
    abbrev more : List Stated
    more = ls ++ l ∷ []

    pub globals_then : globals more ≡ once (flat_map (λ (m : Stated). globals_on m.form) ls ++ globals_on f)
    globals_then = ap once (flat_with (λ (m : Stated). globals_on m.form) ls l (globals_on f) (ap globals_on e))

    pub proc_names_then : proc_names more ≡ proc_names ls ++ map (λ (p : ProcHead). p.name) (procs_on l.place.begun f)
    proc_names_then =
        ap (map (λ (p : ProcHead). p.name)) (flat_with (λ (m : Stated). procs_on m.place.begun m.form) ls l (procs_on l.place.begun f) (ap (procs_on l.place.begun) e))
        ∙ map-append (λ (p : ProcHead). p.name) (procs ls) (procs_on l.place.begun f)

    pub label_names_then : label_names more ≡ label_names ls ++ map (λ (b : LabelLine). b.name) (labels_on l f)
    label_names_then =
        ap (map (λ (b : LabelLine). b.name)) (flat_with (λ (m : Stated). labels_on m m.form) ls l (labels_on l f) (ap (labels_on l) e))
        ∙ map-append (λ (b : LabelLine). b.name) (labels ls) (labels_on l f)

    pub own_names_then : own_names more ≡ names_after (own_names ls) f
    own_names_then = names_more [] ls l ∙ ap (names_after (own_names ls)) e

    pub own_returns_then : own_returns more ≡ returns_after (own_returns ls) f
    own_returns_then = returns_more 0 ls l ∙ ap (returns_after (own_returns ls)) e

    pub total_then : (g : LineForm → ℕ) → total g more ≡ total g ls + g f
    total_then g = total_more g ls l ∙ ap (λ x. total g ls + g x) e

    pub procs_then : procs_in w more ≡ procs_with w ls l f (procs_in w ls)
    procs_then = procs_more w [] [] ls l ∙ ap (λ x. procs_with w ls l x (procs_in w ls)) e

    pub queries_then : flat_map (λ (m : Stated). asked_on w m.form) more ≡ flat_map (λ (m : Stated). asked_on w m.form) ls ++ asked_on w f
    queries_then = flat_with (λ (m : Stated). asked_on w m.form) ls l (asked_on w f) (ap (asked_on w) e)
