-- What is kept of a course, and the course that it stands for.
use Rattle.std.specs.Prelude.{◌≡◌, ℕ, ◌+◌, ◌*◌, Bool, List}
use Rattle.std.specs.declared.cmp.Ordering.{Ordering}
use Rattle.std.specs.Ordering.{nat_cmp, ordering_then}
use Rattle.std.specs.BTreeSet.{BTreeSet, contains}
use Rattle.dn_wire.specs.declared.ids.Member.{Member}
use Rattle.dn_wire.specs.declared.ids.Member.TheVariants.{Client, Server}
use Rattle.dn_seal.specs.Said.{SaidView}
use Rattle.dn_verify.specs.declared.course.Course.{Course}
use Rattle.dn_verify.specs.declared.fold.Fold.{Fold}
use Rattle.dn_verify.specs.declared.marks.Marks.{Marks}
use Rattle.dn_verify.specs.declared.puts.Puts.{Puts}
use Rattle.dn_verify.specs.declared.told.Told.{Told}
use Rattle.dn_verify.specs.declared.told.ToldKey.{ToldKey}
use Rattle.dn_verify.specs.Flight.{flight_of}
use Rattle.dn_verify.specs.Course.{CourseView}
use Rattle.dn_verify.specs.Known.{Known}

-- the order of pairs of numbers
abbrev pub pair_cmp : ℕ × ℕ → ℕ × ℕ → Ordering
pair_cmp x y = ordering_then (nat_cmp x.0 y.0) (nat_cmp x.1 y.1)

-- and of threes
abbrev pub three_cmp : ℕ × (ℕ × ℕ) → ℕ × (ℕ × ℕ) → Ordering
three_cmp x y = ordering_then (nat_cmp x.0 y.0) (pair_cmp x.1 y.1)

-- members by number: clients by even ones, servers by odd ones
abbrev pub member_number : Member → ℕ
member_number (Client i) = 2 * i.0
member_number (Server j) = 2 * j.0 + 1

-- this member had put this payload
abbrev pub has_put : Puts → ℕ → Member → Bool
has_put puts payload m = contains pair_cmp puts.keys (payload, member_number m)

abbrev pub key_of : ToldKey → ℕ × (ℕ × ℕ)
key_of key = (key.r.0, (key.client.0, key.server.0))

-- the client was told by the server in the round
abbrev pub has_told : Told → ToldKey → Bool
has_told told key = contains three_cmp told.keys (key_of key)

-- the number is in the set
abbrev pub has_mark : Marks → ℕ → Bool
has_mark marks n = contains nat_cmp marks.keys n

-- what is known that is kept so, where this was heard
abbrev pub known_of : Fold → List SaidView → Known
known_of f heard = record {
  chain = f.chain;
  reached = has_mark f.reached;
  heard = heard;
  told = has_mark f.told;
  due = f.due.items;
}

-- the course that is kept so
abbrev pub course_of : Course → CourseView
course_of c = record {
  posted = c.posted;
  puts = has_put c.puts;
  sent = c.mail.next;
  flight = flight_of c.mail;
  told = has_told c.told;
  scene = c.scene;
  closed = c.closed;
  ending = c.ending;
}
