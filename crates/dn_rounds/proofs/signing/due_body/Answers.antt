use Rattle.std.proofs.Common.{◌∙◌, length, ap, subst}
use Rattle.std.proofs.lemmas.Result.{IfOk-weaker}
use Rattle.dn_bits.specs.Bits.{sum_bits}
use Rattle.dn_record_types.specs.declared.statement.Statement.TheVariants as kinds
use Rattle.dn_roster.specs.Roster.{RosterView}
use Rattle.dn_server.specs.Server.{AreKept}
use Rattle.dn_rounds.proofs.StepLemmas.{body_same}
use Rattle.dn_rounds.proofs.signing.due_body.Goals as goal

pub returns : goal.returns
returns c =
    let p = c.args.parts.now in
    let run = p.run in
    let n = c.servers-n.ensures.value ∙ ap (λ (r : RosterView). length r.servers) c.roster-roster.ensures.value in
    let digests = c.in_ok-digests.digests.items in
    let strings = c.in_ok-strings.strings.items in
    let out = c.in_ok-out.ensures ∙ ap (sum_bits run.bits) c.deref.ensures.value in
    IfOk-weaker c.make_body.result _ _
    (λ b is. (
      c.in-Some.sum,
      record {
        stage = c.requires.stage;
        digests = digests;
        strings = strings;
        has = c.in-Some.is;
        commits = subst (λ k. AreKept (kinds.Commit run.r) 4 run.kept k digests) n c.in_ok-digests.ensures;
        reveals = subst (λ k. AreKept (kinds.Reveal run.r) 5 run.kept k strings) n c.in_ok-strings.ensures;
        is = is ∙ body_same run.r run.prev c.roster-roster.result.now.version p.identity.roster.version c.get.result.now c.in-Some.sum.listed
            c.deref-2.result.now digests c.in_ok-out.out (sum_bits run.bits strings) (ap (λ (r : RosterView). r.version) c.roster-roster.ensures.value) c.get.ensures c.deref-2.ensures.value out;
      },
    ))
    c.make_body.ensures
