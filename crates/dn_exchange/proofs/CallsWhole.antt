-- A server keeps true from call to call what it has to.
use Rattle.std.proofs.Common.{◌≡◌, ℕ, Bool, true, false, List, sym, subst, ◌∙◌}
use Rattle.std.specs.Prelude.{Option, ◌⊎◌}
use Rattle.dn_wire.specs.declared.ids.Round.{Round}
use Rattle.dn_record_types.specs.declared.statement.Statement.{Statement}
use Rattle.dn_roster.specs.declared.group.GroupSpec.{GroupSpec}
use Rattle.dn_roster.specs.Roster.{RosterView}
use Rattle.dn_seal.specs.Said.{SaidView, IsSaid, IsUnder}
use Rattle.dn_cert.specs.Certificate.{CertificateView, IsCertificate, IsCertificateUnder}
use Rattle.dn_cert.specs.Chain.{IsChain}
use Rattle.dn_server.specs.declared.answer.Answer.{Answer}
use Rattle.dn_server.specs.Server.{ServerView}
use Rattle.dn_exchange.specs.Closing.{Ticks, Shuts}
use Rattle.dn_exchange.specs.Disciplined.{Disciplined}
use Rattle.dn_exchange.specs.Ending.{Abandons, HoldsOn}
use Rattle.dn_exchange.specs.Honest.{IsTrue}
use Rattle.dn_exchange.specs.Invariant.{IsSound}
use Rattle.dn_exchange.specs.Listening.{Hears}
use Rattle.dn_exchange.specs.Making.{IsGroup, first_server}
use Rattle.dn_exchange.specs.Opening.{Opens, IsSmall}
use Rattle.dn_exchange.specs.Openings.{IsOpen}
use Rattle.dn_exchange.specs.Settled.{Settled}
use Rattle.dn_exchange.specs.Signing.{SignsNext}
use Rattle.dn_exchange.specs.Spoiling.{TellsDueBodies}
use Rattle.dn_exchange.specs.Submitting.{TakesSubmission}
use Rattle.dn_exchange.specs.Whole.{IsWhole}
use Rattle.dn_exchange.proofs.CallsFit.{first_fits, opens_fits, takes_fits, ticks_fits, shuts_fits, hears_fits, holds_fits, abandons_fits}
use Rattle.dn_exchange.proofs.CallsOpen.{first_open, opens_open, submits_open, abandons_open, holds_open, bent_by as bent_open_by}
use Rattle.dn_exchange.proofs.CallsSound.{ticks_sound, shuts_sound}
use Rattle.dn_exchange.proofs.ClaimSound.{takes_sound}
use Rattle.dn_exchange.proofs.DueBodies.{ticks_tell, shuts_tell, hears_tell}
use Rattle.dn_exchange.proofs.EndSound.{abandons_sound, bent_by}
use Rattle.dn_exchange.proofs.FirstHonest.{first_true}
use Rattle.dn_exchange.proofs.FirstSound.{opens_sound}
use Rattle.dn_exchange.proofs.HoldSound.{holds_sound}
use Rattle.dn_exchange.proofs.HonestCalls.{ticks_true, shuts_true, abandons_true, holds_true}
use Rattle.dn_exchange.proofs.HonestClaims.{takes_true, listens_true, opens_true}
use Rattle.dn_exchange.proofs.Listens.{ticks_open, shuts_open, listens_sound, listens_open}
use Rattle.dn_exchange.proofs.Promises.{disciplined, settled}
use Rattle.dn_exchange.proofs.SeatStays.{opens_bent, submits_bent, ticks_bent, shuts_bent, hears_bent, holds_bent, abandons_bent}

-- ---- what is promised of it

pub whole_disciplined : (v : ServerView) → IsWhole v → v.bent ≡ false → Disciplined v
whole_disciplined v is b = disciplined v (is.straight b).honest is.sound (is.signs b)

pub whole_settled : (v : ServerView) → IsWhole v → v.bent ≡ false → v.run.is_running ≡ true → Settled v
whole_settled v is b runs = settled v (is.straight b) is.sound runs

-- ---- what it tells

pub ticks_due : (v : ServerView) → IsWhole v → (a : Answer) (w : ServerView) → Ticks v a w → w.bent ≡ false → TellsDueBodies w a
ticks_due v is a w did b = let was : v.bent ≡ false = sym (ticks_bent v a w did) ∙ b in ticks_tell v a w is.sound was (is.straight was).honest did

pub shuts_due : (v : ServerView) → IsWhole v → (a : Answer) (w : ServerView) → Shuts v a w → w.bent ≡ false → TellsDueBodies w a
shuts_due v is a w did b = let was : v.bent ≡ false = sym (shuts_bent v a w did) ∙ b in shuts_tell v a w is.sound was (is.straight was).honest did

pub hears_due : (v : ServerView) → IsWhole v → (said : SaidView) (a : Answer) (w : ServerView) → IsSaid said → IsUnder v.seat.roster said → Hears v said a w → w.bent ≡ false
    → TellsDueBodies w a
hears_due v is said a w at under did b =
    let was : v.bent ≡ false = sym (hears_bent v said a w did) ∙ b in hears_tell v said a w is.sound was (is.straight was).honest at under did

-- ---- its calls

module _ (v : ServerView) (is : IsWhole v) where
  pub opens_whole : (r : Round) (a : Answer) (w : ServerView) → Opens v r a w → (w.run ≡ v.run) ⊎ IsSmall w.run → IsWhole w
  opens_whole r a w did few = record {
    sound = opens_sound v r a w is.sound did few;
    openings = opens_open v r a w did is.openings;
    straight = λ b. opens_true v r a w (is.straight (sym (opens_bent v r a w did) ∙ b)) did;
    signs = λ b. opens_fits v r a w did (is.signs (sym (opens_bent v r a w did) ∙ b));
  }

  pub takes_whole : (said : SaidView) (cipher : List Bool) (a : Answer) (w : ServerView) → IsSaid said → IsUnder v.seat.roster said → TakesSubmission v said cipher a w → IsWhole w
  takes_whole said cipher a w at under did = record {
    sound = takes_sound v said cipher a w at under is.sound did;
    openings = submits_open v said cipher a w did is.openings;
    straight = λ b. takes_true v said cipher a w at under is.sound (is.straight (sym (submits_bent v said cipher a w did) ∙ b)) did;
    signs = λ b. takes_fits v said cipher a w is.sound at did (is.signs (sym (submits_bent v said cipher a w did) ∙ b));
  }

  pub ticks_whole : (a : Answer) (w : ServerView) → Ticks v a w → IsWhole w
  ticks_whole a w did = record {
    sound = ticks_sound v a w is.sound did;
    openings = ticks_open v a w is.sound is.openings did;
    straight = λ b. let was : v.bent ≡ false = sym (ticks_bent v a w did) ∙ b in ticks_true v a w is.sound was (is.straight was) did;
    signs = λ b. ticks_fits v a w is.sound did (is.signs (sym (ticks_bent v a w did) ∙ b));
  }

  pub shuts_whole : (a : Answer) (w : ServerView) → Shuts v a w → IsWhole w
  shuts_whole a w did = record {
    sound = shuts_sound v a w is.sound did;
    openings = shuts_open v a w is.sound is.openings did;
    straight = λ b. let was : v.bent ≡ false = sym (shuts_bent v a w did) ∙ b in shuts_true v a w is.sound was (is.straight was) did;
    signs = λ b. shuts_fits v a w is.sound did (is.signs (sym (shuts_bent v a w did) ∙ b));
  }

  pub hears_whole : (said : SaidView) (a : Answer) (w : ServerView) → IsSaid said → IsUnder v.seat.roster said → Hears v said a w → IsWhole w
  hears_whole said a w at under did =
      let sound : IsSound w = listens_sound v said a w is.sound at under did in
      let openings : IsOpen w = listens_open v said a w is.sound at under is.openings did in
      let was : w.bent ≡ false → v.bent ≡ false = λ b. sym (hears_bent v said a w did) ∙ b in
      let straight : w.bent ≡ false → IsTrue w = λ b. listens_true v said a w is.sound (was b) (is.straight (was b)) at under did in
      record {
        sound = sound;
        openings = openings;
        straight = straight;
        signs = λ b. hears_fits v said a w is.sound at under did sound openings (straight b).honest (is.signs (was b));
      }

  pub holds_whole : (c : CertificateView) (a : Answer) (w : ServerView) → IsChain v.chain → IsCertificate c → IsCertificateUnder v.seat.roster c → HoldsOn v c a w → IsWhole w
  holds_whole c a w chain certificate under did =
      let sound : IsSound w = holds_sound v c a w is.sound chain certificate under did in
      record {
        sound = sound;
        openings = holds_open v c a w did sound is.openings;
        straight = λ b. holds_true v c a w (is.straight (sym (holds_bent v c a w did) ∙ b)) certificate did;
        signs = λ b. holds_fits v c a w did (is.signs (sym (holds_bent v c a w did) ∙ b));
      }

  pub abandons_whole : (a : Answer) (w : ServerView) → Abandons v a w → IsWhole w
  abandons_whole a w did = record {
    sound = abandons_sound v a w is.sound did;
    openings = abandons_open v a w did is.openings;
    straight = λ b. abandons_true v a w (is.straight (sym (abandons_bent v a w did) ∙ b)) did;
    signs = λ b. abandons_fits v a w did (is.signs (sym (abandons_bent v a w did) ∙ b));
  }

  -- a server that is bent, by what it is told to change in a sum, and by what it was made to sign
  pub bent_whole : (at : Option ℕ) (signed : List Statement) → IsWhole (record v { bend = at; signed = signed; bent = true })
  bent_whole at signed = record {
    sound = bent_by v at signed is.sound;
    openings = bent_open_by v at signed is.openings;
    straight = λ b. absurd (let clash = b in cc);
    signs = λ b. absurd (let clash = b in cc);
  }

  pub signs_whole : (s : Statement) (envelope : List ℕ) (w : ServerView) → SignsNext v s envelope w → IsWhole w
  signs_whole s envelope w signs = subst IsWhole (sym signs.signed) (bent_whole v.bend _)

-- ---- as it is made

pub first_whole : (group : GroupSpec) (roster : RosterView) (j workers : ℕ) → IsGroup group roster → IsSound (first_server group roster j workers) → IsWhole (first_server group roster j workers)
first_whole group roster j workers is sound = record {
  sound = sound;
  openings = first_open group roster j workers sound;
  straight = λ b. first_true group roster j workers is;
  signs = λ b. first_fits group roster j workers;
}
