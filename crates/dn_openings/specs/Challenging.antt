-- Which clients a server challenges, and when.
use Rattle.std.specs.Prelude.{false, length, ◌≡◌, ◌⊎◌, ℕ, ◌<◌, List, [], ◌∷◌, ◌++◌, All, AllPairs, Contains}
use Rattle.dn_wire.specs.declared.ids.Member.{Member}
use Rattle.dn_wire.specs.declared.ids.Member.TheVariants as members
use Rattle.dn_record_types.specs.declared.payload.Payload.TheVariants as payloads
use Rattle.dn_records.specs.Records.{payload_bytes}
use Rattle.dn_record_types.specs.declared.body.Body.{Body}
use Rattle.dn_seal.specs.Said.{SaidView, IsUnder}
use Rattle.dn_cert.specs.Certificate.{IsOfRoster}
use Rattle.dn_cert.specs.Chain.{bodies, IsLayoutAfter}
use Rattle.dn_trace.specs.Trial.{Trial, servers_of}
use Rattle.dn_trace.specs.Challenged.{NamesNone, IsOpened, IsChallenged}
use Rattle.dn_trace.specs.Verdict.{StandsBefore}
use Rattle.dn_server.specs.declared.act.Act.{Act}
use Rattle.dn_server.specs.declared.act.Act.TheVariants as acts
use Rattle.dn_server.specs.declared.places.Place.{Place}
use Rattle.dn_server.specs.Server.{ServerView, servers_in, client_member}
use Rattle.dn_openings.specs.Evidence.{openings_of, AreEnvelopes, HasOpened}

-- The place is judged on its openings alone: by the body of its round that the server holds, with the openings that the server keeps.
pub record IsTrialAt (v : ServerView) (place : Place) (trial : Trial) : Type 0 where
  pub roster : trial.roster ≡ v.seat.roster
  pub held : Contains (bodies v.chain) trial.body
  pub round : trial.body.r ≡ place.r
  pub after : IsLayoutAfter v.chain trial.body.prev.0 trial.layout
  pub at : trial.k ≡ place.k
  pub given : trial.given ≡ openings_of v.evidence place

-- all servers have opened the place, by what is kept
abbrev pub AllOpened : ServerView → Place → Type 0
AllOpened v place = (j : ℕ) → j < servers_in v → HasOpened v.evidence place j

-- all servers have opened what is judged
abbrev pub IsComplete : Trial → Type 0
IsComplete trial = (j : ℕ) → j < servers_of trial → IsOpened trial j

abbrev pub IsChallengedMember : Trial → Member → Type 0
IsChallengedMember trial (members.Client i) = IsChallenged trial i.0
IsChallengedMember trial (members.Server j) = ⊥

-- the challenged clients, by number
pub record AreChallenged (trial : Trial) (to : List Member) : Type 0 where
  pub in_order : AllPairs StandsBefore to
  pub each : All (IsChallengedMember trial) to
  pub whole : (i : ℕ) → IsChallenged trial i → Contains to (client_member i)

-- Whom the openings alone have the server challenge: the challenged clients, or nobody where they show a server to be at fault.
abbrev pub AreDue : Trial → List Member → Type 0
AreDue trial to = (NamesNone trial × AreChallenged trial to) ⊎ ((¬ NamesNone trial) × (to ≡ []))

-- the server has looked for clients to challenge at the place
abbrev pub with_looked : ServerView → Place → ServerView
with_looked v place = record v { challenged = v.challenged ++ place ∷ [] }

-- A server looks for clients to challenge at a place that it opened. It does so once, as soon as all servers have opened the place. Where the
-- openings alone show a server to be at fault, it challenges nobody, then or later. One post goes to all who are challenged.
pub data LooksAt (v : ServerView) (place : Place) (did : List Act) (after : ServerView) : Type 0 where
  has_looked : Contains v.challenged place → did ≡ [] → after ≡ v → LooksAt v place did after
  waits : ¬ Contains v.challenged place → ¬ AllOpened v place → did ≡ [] → after ≡ v → LooksAt v place did after
  finds_fault : (trial : Trial) → ¬ Contains v.challenged place → AllOpened v place → IsTrialAt v place trial → ¬ NamesNone trial
      → did ≡ [] → after ≡ with_looked v place → LooksAt v place did after
  finds_nobody : (trial : Trial) → ¬ Contains v.challenged place → AllOpened v place → IsTrialAt v place trial → NamesNone trial → AreChallenged trial []
      → did ≡ [] → after ≡ with_looked v place → LooksAt v place did after
  challenges : (trial : Trial) (first : Member) (others : List Member) (envelopes : List (List ℕ)) → ¬ Contains v.challenged place
      → AllOpened v place → IsTrialAt v place trial → NamesNone trial → AreChallenged trial (first ∷ others)
      → AreEnvelopes v.evidence place (servers_in v) envelopes → did ≡ acts.Post (first ∷ others) (payload_bytes (payloads.Challenge place.r place.k envelopes)) ∷ []
      → after ≡ with_looked v place → LooksAt v place did after

-- the server looks at these places, one after the other
pub data LooksAtAll (v : ServerView) : List Place → List Act → ServerView → Type 0 where
  none : {places : List Place} {did : List Act} {after : ServerView} → places ≡ [] → did ≡ [] → after ≡ v → LooksAtAll v places did after
  more : {places : List Place} {did : List Act} {after : ServerView} (place : Place) (others : List Place) (first rest : List Act) (between : ServerView)
      → places ≡ others ++ place ∷ [] → LooksAtAll v others first between → LooksAt between place rest after → did ≡ first ++ rest
      → LooksAtAll v places did after

-- whom the server challenges at the place, all having opened it
abbrev pub AreDueAt : ServerView → Place → List Member → Type 0
AreDueAt v place to = (trial : Trial) × IsTrialAt v place trial × AreDue trial to

-- what is done where these are to be challenged
abbrev pub IsCall : List SaidView → Place → ℕ → List Member → List Act → Type 0
IsCall kept place n [] did = did ≡ []
IsCall kept place n (first ∷ others) did =
    (envelopes : List (List ℕ)) × AreEnvelopes kept place n envelopes
    × (did ≡ acts.Post (first ∷ others) (payload_bytes (payloads.Challenge place.r place.k envelopes)) ∷ [])

-- the server looks at the place, and this is done besides
abbrev pub LooksOn : ServerView → Place → List Act → List Act → ServerView → Type 0
LooksOn v place before done after = (did : List Act) × (done ≡ before ++ did) × LooksAt v place did after

-- the server looks at these places, and this is done besides
abbrev pub LooksOnAll : ServerView → List Place → List Act → List Act → ServerView → Type 0
LooksOnAll v places before done after = (did : List Act) × (done ≡ before ++ did) × LooksAtAll v places did after

-- What a server needs to look at a place: its body, with data, is held, and is one of the group's; and what is kept was said in the group.
pub record CanLook (v : ServerView) (place : Place) : Type 0 where
  pub body : Body
  pub held : Contains (bodies v.chain) body
  pub round : body.r ≡ place.r
  pub full : body.thin ≡ false
  pub within : place.k < length body.out
  pub in_group : IsOfRoster v.seat.roster body
  pub under : All (IsUnder v.seat.roster) v.evidence
