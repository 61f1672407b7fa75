use Rattle.std.proofs.Common.{◌≡◌, ◌<◌, ◌≤◌, true, subst}
use Rattle.std.specs.Prelude.{is_some}
use Rattle.document_forms.specs.Forms.{names_of}
use Rattle.document_reader.specs.NameLines.{names_in, HasAdded}
use Rattle.document_reader.proofs.NameLineLemmas.{told_twice, told_many, told_none, declares}
use Rattle.document_reader.proofs.name_lines.declare.Goals as goal

pub returns-then-twice-clause-kind : goal.returns-then-twice-clause-kind
returns-then-twice-clause-kind c =
    let m : (is_some (names_of c.args.words.now) ≡ true) × HasAdded c.args.table.now c.add_free.new.table (names_in c.args.words.now) c.in-Some.twice =
    rw c.in-Some.is at c.in_ok-twice.ensures in
    told_twice c.args.table.now c.add_free.new.table c.args.most c.args.words.now
    m.0 c.in-Some.twice m.1 c.if-twice.true

pub returns-then-len-most-clause-kind : goal.returns-then-len-most-clause-kind
returns-then-len-most-clause-kind c =
    let m : (is_some (names_of c.args.words.now) ≡ true) × HasAdded c.args.table.now c.add_free.new.table (names_in c.args.words.now) c.in-Some.twice =
    rw c.in-Some.is at c.in_ok-twice.ensures in
    told_many c.args.table.now c.add_free.new.table c.args.most c.args.words.now
    m.0 c.in-Some.twice m.1 c.if-twice.false
    (subst (λ n. c.args.most < n) c.len.ensures c.if-len-most.true)

pub returns-clause-kind : goal.returns-clause-kind
returns-clause-kind c =
    let m : (is_some (names_of c.args.words.now) ≡ true) × HasAdded c.args.table.now c.add_free.new.table (names_in c.args.words.now) c.in-Some.twice =
    rw c.in-Some.is at c.in_ok-twice.ensures in
    told_none c.args.table.now c.add_free.new.table c.args.most c.args.words.now
    m.0 c.in-Some.twice m.1 c.if-twice.false
    (subst (λ n. n ≤ c.args.most) c.len.ensures c.if-len-most.false)

pub returns-clause-declares : goal.returns-clause-declares
returns-clause-declares c =
    let m : (is_some (names_of c.args.words.now) ≡ true) × HasAdded c.args.table.now c.add_free.new.table (names_in c.args.words.now) c.in-Some.twice =
    rw c.in-Some.is at c.in_ok-twice.ensures in
    declares c.args.table.now c.add_free.new.table c.args.most c.args.words.now
    m.0 c.in-Some.twice m.1 c.if-twice.false
    c.stands_once.ensures
