-- A server whose run has ended stays sound.
use Rattle.std.proofs.Common.{◌≡◌, ℕ, true, false, sym, subst, arith}
use Rattle.dn_server.specs.declared.answer.Answer.{Answer}
use Rattle.dn_exchange.specs.Ending.{Abandons}
use Rattle.dn_exchange.specs.Ending.Abandons.{is_idle, abandons}
use Rattle.std.specs.Prelude.{List, All, Option}
use Rattle.dn_record_types.specs.declared.body.Body.{Body}
use Rattle.dn_cert.specs.Certificate.{IsOfRoster}
use Rattle.dn_record_types.specs.declared.statement.Statement.{Statement}
use Rattle.dn_server.specs.Server.{ServerView, ended}
use Rattle.dn_exchange.specs.Invariant.{IsSound}

never : true ≡ false → ⊥
never e = cc

-- also on another chain of the group's bodies
pub ended_on : (v : ServerView) → IsSound v → (held : List Body) → All (IsOfRoster v.seat.roster) held → IsSound (record (ended v) { chain = record v.chain { held = held } })
ended_on v s held all = record {
  seated = record { roster = s.seated.roster; number = s.seated.number; seeds = s.seated.seeds };
  member = s.member;
  is_key = s.is_key;
  workers = s.workers;
  slots = s.slots;
  in_group = all;
  window = s.window;
  claims = s.claims;
  are_claims = s.are_claims;
  claimed = s.claimed;
  is_open = λ e. absurd (never e);
  round = s.round;
  aside = λ b. let few = s.aside b in omega arith;
  some_aside = λ b e. absurd (never e);
  running = λ e. absurd (never (sym e));
}

pub ended_sound : (v : ServerView) → IsSound v → IsSound (ended v)
ended_sound v s = ended_on v s v.chain.held s.in_group

pub abandons_sound : (v : ServerView) (a : Answer) (w : ServerView) → IsSound v → Abandons v a w → IsSound w
abandons_sound v a w s (is_idle i e f) = subst IsSound (sym f) s
abandons_sound v a w s (abandons i e f) = subst IsSound (sym f) (ended_sound v s)

-- a server that is bent, by what it is told to change in a sum, and by what it was made to sign
pub bent_by : (v : ServerView) (at : Option ℕ) (signed : List Statement) → IsSound v → IsSound (record v { bend = at; signed = signed; bent = true })
bent_by v at signed s = record {
  seated = record { roster = s.seated.roster; number = s.seated.number; seeds = s.seated.seeds };
  member = s.member;
  is_key = s.is_key;
  workers = s.workers;
  slots = s.slots;
  in_group = s.in_group;
  window = s.window;
  claims = s.claims;
  are_claims = s.are_claims;
  claimed = s.claimed;
  is_open = s.is_open;
  round = s.round;
  aside = λ e. absurd (never e);
  some_aside = λ b e. absurd (never b);
  running = s.running;
}
