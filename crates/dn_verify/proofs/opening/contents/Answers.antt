use Rattle.std.proofs.Common.{List, ℕ, take, subst, sym, arith}
use Rattle.std.specs.List.{AllZip}
use Rattle.dn_verify.specs.Payloads.{IsContent}
use Rattle.dn_verify.specs.Steps.{posts_of}
use Rattle.dn_verify.proofs.ContentLemmas.{posts_more}
use Rattle.dn_verify.proofs.opening.contents.Goals as goal

pub loop-line-preserved : goal.loop-line-preserved
loop-line-preserved c =
    let ls = c.args.lines.now in
    let more = posts_more ls c.loop-line.line-index c.line-item.result (omega arith) c.line-item.is in
    record {
      under = c.in_ok-add_content.ensures.under;
      contents = subst (λ (bs : List (List ℕ)). AllZip (IsContent c.args.roster.now) bs c.add_content.new.contents.items) (sym more)
          (c.in_ok-add_content.ensures.contents (posts_of (take c.loop-line.line-index ls)) c.loop-line.invariant.contents);
    }
