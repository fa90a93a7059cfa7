use Rattle.std.proofs.Common.{◌∙◌, List, [], ◌∷◌, ◌++◌, take, ap, subst, sym}
use Rattle.std.proofs.lemmas.Bool.{eq-eqb}
use Rattle.dn_cert.specs.Trim.{given_to}
use Rattle.dn_record_types.specs.declared.body.Listed.{Listed}
use Rattle.dn_record_types.specs.declared.shown.ShownCipher.{ShownCipher}
use Rattle.std.specs.Prelude.{slice_index_or}
use Rattle.dn_server.specs.Justified.{AreOfRows, AreIncluded}
use Rattle.dn_server.specs.Server.{WasIncluded, course_of}
use Rattle.dn_rounds.proofs.ClaimLemmas.{claimed_at, rows-push, told-push, given-take, given-skip}
use Rattle.dn_server.proofs.MemberLemmas.{differs}
use Rattle.dn_rounds.proofs.committing.own_ciphers.Goals as goal
use Rattle.dn_rounds.proofs.committing.own_ciphers.Goals.{then-row-own+in_ok-cipher+in_ok-push, else-row-own}

none : Listed
none = record { client = record { 0 = 0 }; server = record { 0 = 0 }; digest = [] }

pub cipher_for-requires : goal.cipher_for-requires
unfolding none
cipher_for-requires c =
    claimed_at c.args.run.now c.args.listed.now c.args.own.0 c.loop-row.row-index none c.requires c.loop-row-test.true c.if-row-own.true

pub loop-row-preserved : goal.loop-row-preserved
unfolding none
loop-row-preserved c =
    let run = c.args.run.now in
    let listed = c.args.listed.now in
    let own = c.args.own.0 in
    let i = c.loop-row.row-index in
    let row = slice_index_or listed i none in
    elim c.if-row-own.branch [
      | then-row-own+in_ok-cipher+in_ok-push w ↦
          let s = w.in_ok-cipher.cipher in
          let rows = given-take listed own i none c.loop-row-test.true (eq-eqb row.server.0 own w.if-row-own.true) in
          let items = ap (λ v. v.items) w.all-is ∙ w.in_ok-push.ensures.items in (
            subst (λ (l : List Listed). AreOfRows (course_of run) l c.if-row-own.all.items) (sym rows)
                (subst (λ (o : List ShownCipher). AreOfRows (course_of run) (given_to (take i listed) own ++ row ∷ []) o) (sym items)
                (rows-push (course_of run) (given_to (take i listed) own) c.loop-row.all.items row s c.loop-row.invariant.0 w.in_ok-cipher.ensures.of_row)),
            subst (λ (l : List Listed). AreIncluded (WasIncluded run) (course_of run) l c.if-row-own.all.items) (sym rows)
                (subst (λ (o : List ShownCipher). AreIncluded (WasIncluded run) (course_of run) (given_to (take i listed) own ++ row ∷ []) o) (sym items)
                (told-push run (given_to (take i listed) own) c.loop-row.all.items row s c.loop-row.invariant.0 c.loop-row.invariant.1 w.in_ok-cipher.ensures.told)),
          )
      | else-row-own w ↦
          let rows = given-skip listed own i none c.loop-row-test.true (differs row.server.0 own w.if-row-own.false) in
          let items = ap (λ v. v.items) w.all-is in (
            subst (λ (l : List Listed). AreOfRows (course_of run) l c.if-row-own.all.items) (sym rows)
                (subst (λ (o : List ShownCipher). AreOfRows (course_of run) (given_to (take i listed) own) o) (sym items) c.loop-row.invariant.0),
            subst (λ (l : List Listed). AreIncluded (WasIncluded run) (course_of run) l c.if-row-own.all.items) (sym rows)
                (subst (λ (o : List ShownCipher). AreIncluded (WasIncluded run) (course_of run) (given_to (take i listed) own) o) (sym items) c.loop-row.invariant.1),
          )
    ]
