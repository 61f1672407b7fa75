-- A program that is read is one that the machine and the lowering take.
use Rattle.std.proofs.Common.{◌≡◌, ℕ, zero, suc, ◌+◌, ◌<◌, ◌≤◌, Bool, true, false, cond, List, [], ◌∷◌, map, length, Some, Ok, refl, sym, ap, ◌∙◌, subst, ap₂, arith, max, sum, count_by, sum_by}
use Rattle.std.specs.Prelude.{slice_get, is_none, codes, bytes_eq, ◌==◌, IsTrue}
use Rattle.std.proofs.lemmas.List.{length-map}
use Rattle.std.proofs.lemmas.List.Sums.{sum-map}
use Rattle.std.proofs.lemmas.Slice.Eq.{bytes_eq-Decides}
use Rattle.wpds_base.specs.Limits.{most_related}
use Rattle.boolean_programs.specs.declared.point.Point.{Point}
use Rattle.boolean_programs.specs.declared.program.Proc.{Proc}
use Rattle.boolean_programs.specs.declared.program.Program.{Program as ParsedProgram}
use Rattle.boolean_programs.specs.declared.program.BodyLine.{BodyLine}
use Rattle.boolean_programs.specs.declared.statement.Statement.{Statement}
use Rattle.boolean_programs.specs.Programs.{Procedure, Program, procedure_of, main_of, program_of, width}
use Rattle.boolean_programs.specs.Lines.{Instruction, code, line_numbers, instruction_at}
use Rattle.boolean_programs.specs.Lists.{Each}
use Rattle.boolean_programs.specs.Structure.{nested, FitsLine, FitsStatement, largest, return_slots, IsRead}
use Rattle.boolean_machine.specs.Lawful.{is_assert, IsLawful}
use Rattle.program_forms.specs.Forms.{LineForm}
use Rattle.program_forms.specs.Places.{at_top, Stated}
use Rattle.program_forms.specs.Declared.{proc_named, most_returns, procs, labels, Whole, whole}
use Rattle.program_forms.specs.Above.{queries}
use Rattle.program_forms.specs.Kinds.{is_main}
use Rattle.program_forms.specs.FirstRefusal.{said_lines}
use Rattle.program_forms.specs.Programs.{procs_in, read_as, program_of as parsed_program_of}
use Rattle.program_laws.specs.ReadPrograms.{IsPoint, points, rules_by, rules, IsProgram}
use Rattle.program_laws.proofs.ListLemmas.{EachAt, each_none, get_mapped, get_map}
use Rattle.program_laws.proofs.WalkLemmas.{heads, placed, AreAccepted, walked}
use Rattle.program_laws.proofs.AcceptedLemmas.{behind_header, read_text}
use Rattle.program_laws.proofs.BlockLemmas.{IsNested, AreNested, AreNestedBut, blocks_nest}
use Rattle.program_laws.proofs.BodyLemmas.{bodies, code_seen, RisesTo, rises_to, numbers, AreRising, AreRisingWith, numbers_rise}
use Rattle.program_laws.proofs.CountLemmas.{AreFew, AreFewIn, AreFewWith, counts_are_few, none_few}
use Rattle.program_laws.proofs.LabelLemmas.{Bears, AreBorne, AreBorneWith, labels_are_borne}
use Rattle.program_laws.proofs.SoundLemmas.{IsSound, AreSound, AreSoundWith, procs_are_sound}
use Rattle.program_laws.proofs.StatementLemmas.{bearer_of, line_fits}
use Rattle.program_laws.proofs.AskedLemmas.{IsAsked, all_asked, lines_asked, many_asked}
use Rattle.program_laws.proofs.CodeLemmas.{in_code, of_code, at_number}

-- ---- all that accepted lines keep

pub record Facts (w : Whole) (ls : List Stated) (qs : List Proc) : Type 0 where
  pub told : heads 0 qs ≡ procs ls
  pub nest : Each IsNested qs
  pub high : ℕ
  pub rise : RisesTo 0 (numbers qs) high
  pub few : AreFew ls (bodies qs)
  pub borne : Each (Bears qs) (labels ls)
  pub sound : EachAt (IsSound w) qs
  pub asked : Each (IsAsked w) (all_asked w ls)

facts : (w : Whole) (xs : List (ℕ × LineForm)) → AreAccepted w 0 [] at_top xs → Facts w (placed at_top xs) (procs_in w (placed at_top xs))
facts w xs a =
    let nest = walked w AreNested AreNestedBut (blocks_nest w) (each_none IsNested) xs a in
    let rise = walked w AreRising AreRisingWith (numbers_rise w) (omega arith) xs a in
    let few = walked w AreFewIn AreFewWith (counts_are_few w) none_few xs a in
    let borne = walked w AreBorne AreBorneWith (labels_are_borne w) (each_none (Bears [])) xs a in
    let sound = walked w (AreSound w) (AreSoundWith w) (procs_are_sound w) (λ k q e. cc) xs a in
    record {
      told = nest.2.told;
      nest = nest.3;
      high = rise.0;
      rise = rise.3;
      few = few.3;
      borne = borne.3;
      sound = sound.3;
      asked = lines_asked w xs 0 [] at_top a;
    }

-- ---- main

main_found : (base : ℕ) (qs : List Proc) → is_none (proc_named (heads base qs) (codes "main")) ≡ false → (q : Proc) × (slice_get qs (main_of qs) ≡ Some q) × (is_main q.name ≡ true)
main_found base [] h = cc
main_found base (q ∷ qs) h = go (bytes_eq (codes "main") q.name) refl h (main_found (suc base) qs)
  where
    go : (t : Bool) → bytes_eq (codes "main") q.name ≡ t → is_none (cond t (Some (record { name = q.name; params = q.params; returns = q.returns; place = base })) (proc_named (heads (suc base) qs) (codes "main"))) ≡ false
        → (is_none (proc_named (heads (suc base) qs) (codes "main")) ≡ false → (r : Proc) × (slice_get qs (main_of qs) ≡ Some r) × (is_main r.name ≡ true))
        → (r : Proc) × (slice_get (q ∷ qs) (cond t 0 (suc (main_of qs))) ≡ Some r) × (is_main r.name ≡ true)
    go true e g more = (q, refl, (bytes_eq-Decides q.name (codes "main")).1 (sym ((bytes_eq-Decides (codes "main") q.name).0 e)))
    go false e g more = more g

-- ---- return slots

slots_are : (base : ℕ) (qs : List Proc) → largest (map (λ (q : Procedure). q.returns) (map procedure_of qs)) ≡ most_returns (heads base qs)
slots_are base [] = refl
slots_are base (q ∷ qs) = ap (λ n. max q.returns n) (slots_are (suc base) qs)

-- ---- the program of these lines

positive : (n : ℕ) → (n == 0) ≡ false → 0 < n
positive zero h = cc
positive (suc n) h = omega arith

module _ (ls : List Stated) (f : Facts (whole ls) ls (procs_in (whole ls) ls)) (has_main : is_none (proc_named (procs ls) (codes "main")) ≡ false) (asks : (queries ls == 0) ≡ false) where
  abbrev w : Whole
  w = whole ls

  abbrev qs : List Proc
  qs = procs_in (whole ls) ls

  abbrev p : Program
  p = program_of (parsed_program_of ls)

  main : (q : Proc) × (slice_get qs (main_of qs) ≡ Some q) × (is_main q.name ≡ true)
  main = main_found 0 qs (subst (λ hs. is_none (proc_named hs (codes "main")) ≡ false) (sym f.told) has_main)

  lines_rise : RisesTo 0 (line_numbers (code p)) f.high
  lines_rise = subst (λ ns. RisesTo 0 ns f.high) (sym (code_seen (λ n s. n) 0 qs)) f.rise

  fits : Each (FitsLine p) (code p)
  fits m i e =
      let o = in_code 0 qs m i e in
      let place : i.procedure ≡ o.place = let h = o.number in omega arith in
      record {
        owner = procedure_of o.owner;
        found = ap (slice_get p.procs) place ∙ get_map procedure_of qs o.place o.owner o.found;
        fits = subst (λ (st : Statement). FitsStatement p (procedure_of o.owner) (p.globals + width (procedure_of o.owner)) st) (sym o.statement)
            (line_fits w qs (all_asked w ls) f.told f.borne o.place o.owner o.found o.body_line.statement ((f.sound o.place o.owner o.found).lines o.index o.body_line o.there));
      }

  is_narrow : Each (λ (q : Procedure). p.globals + return_slots p + width q ≤ most_related) p.procs
  is_narrow k r e =
      let q = get_mapped procedure_of qs k r e in
      let few = (f.sound k q.0 q.1).narrow in
      let slots : return_slots p ≡ w.slots = slots_are 0 qs ∙ ap most_returns f.told in
      subst (λ (x : Procedure). p.globals + return_slots p + width x ≤ most_related) q.2 (omega arith)

  nests : Each (λ (q : Procedure). IsTrue (nested [] q.body)) p.procs
  nests k r e = let q = get_mapped procedure_of qs k r e in subst (λ (x : Procedure). IsTrue (nested [] x.body)) q.2 (f.nest k q.0 q.1)

  read : IsRead p
  read = record {
    main = procedure_of main.0;
    found = get_map procedure_of qs (main_of qs) main.0 main.1;
    blocks = nests;
    rising = rises_to 0 (line_numbers (code p)) f.high lines_rise;
    lines = fits;
    narrow = is_narrow;
  }

  -- ---- counts

  points_are : points p ≡ length (bodies qs) + count_by (λ (l : BodyLine). is_assert l.statement) (bodies qs)
  points_are =
      let long = sym (length-map (code p) (λ (i : Instruction). i.statement)) ∙ ap length (code_seen (λ n s. s) 0 qs) ∙ length-map (bodies qs) (λ (l : BodyLine). l.statement) in
      let asserts = sym (sum-map (λ (i : Instruction). cond (is_assert i.statement) 1 0) (code p)) ∙ ap sum (code_seen (λ n s. cond (is_assert s) 1 0) 0 qs) ∙ sum-map (λ (l : BodyLine). cond (is_assert l.statement) 1 0) (bodies qs) in
      ap₂ (λ m n. m + n) long asserts

  rules_are : rules p ≡ sum_by (λ (l : BodyLine). rules_by l.statement) (bodies qs)
  rules_are = sym (sum-map (λ (i : Instruction). rules_by i.statement) (code p)) ∙ ap sum (code_seen (λ n s. rules_by s) 0 qs) ∙ sum-map (λ (l : BodyLine). rules_by l.statement) (bodies qs)

  -- ---- queries

  is_point : (point : Point) → IsAsked w point → IsPoint p point
  is_point point a =
      let b = bearer_of w qs (all_asked w ls) f.told f.borne a.name a.label a.named in
      let c = of_code 0 qs b.place b.owner b.index b.bearer b.found b.there in
      let i = c.1 in (
        i.procedure,
        record {
          instruction = i;
          there = ap (instruction_at p) (a.same_line ∙ sym b.same_line ∙ sym c.3) ∙ at_number p f.high c.0 i lines_rise c.2;
          owner = refl;
          asserts = λ h. ap is_assert c.5 ∙ b.asserts ∙ a.asserts h;
        },
      )

  pub is_program : (IsRead p → IsLawful p) → IsProgram (parsed_program_of ls)
  unfolding read main
  is_program lawful =
      let alone = (f.sound (main_of qs) main.0 main.1).main main.2 in
      let points = points_are in
      let rules = rules_are in
      let had = f.few.points in
      let few_points = f.few.few_points in
      let made = f.few.rules in
      let few_rules = f.few.few_rules in
      let few_queries = f.few.few_queries in
      let many = many_asked w ls in
      let some = positive (queries ls) asks in
      record {
        read = read;
        lawful = lawful read;
        main_takes_none = alone.0;
        main_returns_none = alone.1;
        few_points = omega arith;
        few_rules = omega arith;
        few_queries = omega arith;
        asks = omega arith;
        asked = λ k point e. is_point point (f.asked k point e);
      }

-- ---- from the bytes

pub read_programs_lawful : ((p : Program) → IsRead p → IsLawful p) → (bytes : List ℕ) (p : ParsedProgram) → read_as bytes ≡ Ok p → IsProgram p
read_programs_lawful lawful bytes p e =
    let text = read_text bytes p e in
    let t = text.0 in
    let ls = behind_header (said_lines bytes) in
    let f = subst (λ (xs : List Stated). Facts (whole ls) xs (procs_in (whole ls) xs)) (sym t.same) (facts (whole ls) t.items t.accepted) in
    subst IsProgram text.1 (is_program ls f t.main t.asked (lawful (program_of (parsed_program_of ls))))
