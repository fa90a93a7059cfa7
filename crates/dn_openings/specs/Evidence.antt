-- Openings of servers, and answers of clients, as a server keeps them.
use Rattle.std.specs.Prelude.{◌≡◌, ℕ, ◌==◌, ◌&&◌, Bool, false, List, [], ◌∷◌, ◌++◌, filter, find, map, Option, Some}
use Rattle.dn_wire.specs.declared.ids.Round.{Round}
use Rattle.dn_bits.specs.Bits.{below}
use Rattle.dn_record_types.specs.declared.statement.Statement.{Statement}
use Rattle.dn_record_types.specs.declared.statement.Statement.TheVariants as kinds
use Rattle.dn_record_types.specs.declared.shown.ShownCipher.{ShownCipher}
use Rattle.dn_seal.specs.Dealt.{server}
use Rattle.dn_seal.specs.Said.{SaidView}
use Rattle.dn_trace.specs.Trial.{Says}
use Rattle.dn_server.specs.declared.places.Place.{Place}
use Rattle.dn_server.specs.Server.{ServerView, is_server}

-- the pad bits of place k of round r
abbrev pub is_pad : Round → ℕ → Statement → Bool
is_pad r k (kinds.Submission round prev i d) = false
is_pad r k (kinds.Receipt round i d t) = false
is_pad r k (kinds.Inventory v) = false
is_pad r k (kinds.Commit round d) = false
is_pad r k (kinds.Reveal round s) = false
is_pad r k (kinds.Sign b) = false
is_pad r k (kinds.PadBits round at bits) = (round.0 == r.0) && (at == k)
is_pad r k (kinds.Shown round s shown) = false
is_pad r k (kinds.Accusation round s at) = false
is_pad r k (kinds.Rebuttal round at j seed e) = false
is_pad r k (kinds.Concede round at) = false

-- The statement opens place k of round r: it has the pad bits of the place, or the ciphertexts of the round.
abbrev pub is_opening : Round → ℕ → Statement → Bool
is_opening r k (kinds.Submission round prev i d) = false
is_opening r k (kinds.Receipt round i d t) = false
is_opening r k (kinds.Inventory v) = false
is_opening r k (kinds.Commit round d) = false
is_opening r k (kinds.Reveal round s) = false
is_opening r k (kinds.Sign b) = false
is_opening r k (kinds.PadBits round at bits) = (round.0 == r.0) && (at == k)
is_opening r k (kinds.Shown round s shown) = round.0 == r.0
is_opening r k (kinds.Accusation round s at) = false
is_opening r k (kinds.Rebuttal round at j seed e) = false
is_opening r k (kinds.Concede round at) = false

-- server j has opened the place: it signed pad bits of it, and showed the ciphertexts of its round
pub record HasOpened (kept : List SaidView) (place : Place) (j : ℕ) : Type 0 where
  pub pad : List Bool
  pub signed : Says kept (server j) (kinds.PadBits place.r place.k pad)
  pub s : List Bool
  pub shown : List ShownCipher
  pub shows : Says kept (server j) (kinds.Shown place.r s shown)

-- what is kept that opens the place
abbrev pub openings_of : List SaidView → Place → List SaidView
openings_of evidence place = filter (λ x. is_opening place.r place.k x.statement) evidence

-- the first pad bits of the place that are kept of server j
abbrev pub pad_by : List SaidView → Place → ℕ → Option SaidView
pad_by evidence place j = find (λ x. is_server j x.signer && is_pad place.r place.k x.statement) evidence

-- the envelopes of the first pad bits of the place that are kept of each of n servers, by server
pub record AreEnvelopes (evidence : List SaidView) (place : Place) (n : ℕ) (envelopes : List (List ℕ)) : Type 0 where
  pub pads : List SaidView
  pub each : map (λ x. Some x) pads ≡ map (pad_by evidence place) (below n)
  pub spelled : envelopes ≡ map (λ x. x.bytes) pads

-- the server keeps one statement more
abbrev pub with_evidence : ServerView → SaidView → ServerView
with_evidence v said = record v { evidence = v.evidence ++ said ∷ [] }
