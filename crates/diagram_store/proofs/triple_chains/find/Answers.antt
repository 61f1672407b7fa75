use Rattle.std.proofs.Common.{◌≡◌, ℕ, suc, ◌-◌, ◌<◌, length, get_or, sym, ap, ◌∙◌, subst, arith}
use Rattle.std.proofs.lemmas.Option.{slice_get-get_or}
use Rattle.diagram_store.specs.declared.triple_chains.Entry.{Entry}
use Rattle.diagram_store.specs.private.TripleChains.{bucket}
use Rattle.diagram_store.proofs.ChainLemmas.{Walks, walk_begun, walk_found, walk_on}
use Rattle.diagram_store.proofs.triple_chains.find.Goals as goal

abbrev blank : Entry
blank = record { x = 0; y = 0; z = 0; value = 0; older = 0 }

pub loop-at-init : goal.loop-at-init
loop-at-init c =
    let heads = c.args.heads.now in
    let is : c.bucket.result ≡ bucket (length heads) c.args.x c.args.y c.args.z = c.bucket.ensures.bucket in
    walk_begun heads c.args.entries.now (c.args.x, c.args.y, c.args.z) c.requires.linked
    (subst (λ b. b < length heads) is c.bucket.ensures.within) (get_or heads c.bucket.result 0) (ap (λ b. get_or heads b 0) is)

pub returns-then-is_at : goal.returns-then-is_at
returns-then-is_at c =
    let i : ℕ = c.loop-at.at - 1 in
    let es = c.args.entries.now in
    let at : c.loop-at.at ≡ suc i = omega (arith, c.loop-at-test.true) in
    let within : i < length es = omega (arith, c.loop-at-test.true, c.loop-at.invariant.within) in
    sym (walk_found (c.args.heads.now) es (c.args.x, c.args.y, c.args.z) c.requires.linked i
    (subst (Walks (length c.args.heads.now) es (c.args.x, c.args.y, c.args.z)) at c.loop-at.invariant)
    (get_or es i blank) (slice_get-get_or es i blank within) (sym c.is_at.ensures ∙ c.if-is_at.true))

goes_on : (c : goal.Else-is_at) → ((get_or c.args.entries.now (c.loop-at.at - 1) blank).older < suc (c.loop-at.at - 1))
    × Walks (length c.args.heads.now) c.args.entries.now (c.args.x, c.args.y, c.args.z) (get_or c.args.entries.now (c.loop-at.at - 1) blank).older
goes_on c =
    let i : ℕ = c.loop-at.at - 1 in
    let es = c.args.entries.now in
    let at : c.loop-at.at ≡ suc i = omega (arith, c.loop-at-test.true) in
    let within : i < length es = omega (arith, c.loop-at-test.true, c.loop-at.invariant.within) in
    walk_on (c.args.heads.now) es (c.args.x, c.args.y, c.args.z) c.requires.linked i
    (subst (Walks (length c.args.heads.now) es (c.args.x, c.args.y, c.args.z)) at c.loop-at.invariant)
    (get_or es i blank) (slice_get-get_or es i blank within) (sym c.is_at.ensures ∙ c.if-is_at.false)

pub loop-at-smaller : goal.loop-at-smaller
loop-at-smaller c = let less = (goes_on c).0 in omega (arith, less, c.loop-at-test.true)

pub loop-at-preserved : goal.loop-at-preserved
loop-at-preserved c = (goes_on c).1
