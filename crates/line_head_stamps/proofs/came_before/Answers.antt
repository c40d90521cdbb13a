-- `line_head_stamps::came_before` meets its contract: a name is the first of its stamp, or the one name at the end of its way, the first of its equals, decides. Guesses that the way
-- changed are of no account. Assumes nothing.
use mathlib.Core.Path.{◌≡◌, refl, sym, ap, subst, ◌∙◌}
use mathlib.Core.List.{List}
use Prim.Native.Nat.{ℕ, ◌+◌, ◌≤◌, ◌<◌}
use native.Mathlib.Omega.{arith}
use borrow.Author.Rules.{rules}
use lib.ListN.{length, get_or, set, length-set}
use Rattle.text_bytes.specs.Bytes.{Bytes}
use Rattle.text_bytes.specs.Places.{part}
use Rattle.line_head_stamps.specs.Stamps.{DOORS, ROOM, SAME, IsDoor, name_at, hash_of, side_of, entered}
use Rattle.line_head_stamps.specs.Ways.{Way, Astray, Noted}
use Rattle.line_head_stamps.proofs.Laws.Asking.{hash_below, side_below}
use Rattle.line_head_stamps.proofs.Laws.Naming.{name_there}
use Rattle.line_head_stamps.proofs.Laws.Passing.{way_range}
use Rattle.line_head_stamps.proofs.Laws.Guessing.{noted_kept, adds_kept, stamp_written, fork_written}
use Rattle.line_head_stamps.proofs.Laws.Writing.{entered_length}
use Rattle.line_head_stamps.proofs.Laws.Adding.{adds_first, adds_again, adds_over, adds_fork}
use Rattle.line_head_stamps.proofs.came_before.Goals as goal

pub last_door-requires : goal.last_door-requires
last_door-requires c =
    let below : c.hash-h.result < 4096 = rw c.hash-h.ensures (hash_below (part c.args.at c.args.end c.args.line.now)) in
    record {
      stamps_len = c.requires.noted.places;
      count_bound = (c.requires.count_bound.0, below);
      doors = c.requires.noted.doors;
    }

pub enter-requires : goal.enter-requires
enter-requires c =
    let table : List ℕ = c.last_door.new.stamps in
    let few : c.args.count ≤ 254 = c.requires.count_bound.0 in
    let noted : Noted table c.args.line_no c.args.line.now c.args.count = noted_kept c.last_door.ensures.guessed few c.args.line_no c.args.line.now c.requires.noted in
    record { stamps_len = noted.places; count_bound = search rules }

pub offset_bounds-stamps-h : goal.offset_bounds-stamps-h
offset_bounds-stamps-h c =
    let below : c.hash-h.result < 4096 = rw c.hash-h.ensures (hash_below (part c.args.at c.args.end c.args.line.now)) in
    omega (arith, below)

pub bounds-stamps-h : goal.bounds-stamps-h
bounds-stamps-h c =
    let below : c.hash-h.result < 4096 = rw c.hash-h.ensures (hash_below (part c.args.at c.args.end c.args.line.now)) in
    let table : List ℕ = c.last_door.new.stamps in
    let few : c.args.count ≤ 254 = c.requires.count_bound.0 in
    let noted : Noted table c.args.line_no c.args.line.now c.args.count = noted_kept c.last_door.ensures.guessed few c.args.line_no c.args.line.now c.requires.noted in
    let entered_room : length (entered table c.args.count c.args.at c.args.end) ≡ ROOM = entered_length table c.args.count c.args.at c.args.end ∙ noted.places in
    omega (arith, below, ap length c.enter.ensures, entered_room)

pub overflow_add-stamps : goal.overflow_add-stamps
overflow_add-stamps c =
    let below : c.hash-h.result < 4096 = rw c.hash-h.ensures (hash_below (part c.args.at c.args.end c.args.line.now)) in
    omega (arith, below)

pub offset_bounds-stamps-h-in_default : goal.offset_bounds-stamps-h-in_default
offset_bounds-stamps-h-in_default c =
    let below : c.hash-h.result < 4096 = rw c.hash-h.ensures (hash_below (part c.args.at c.args.end c.args.line.now)) in
    omega (arith, below)

pub bounds-stamps-h-in_default : goal.bounds-stamps-h-in_default
bounds-stamps-h-in_default c =
    let below : c.hash-h.result < 4096 = rw c.hash-h.ensures (hash_below (part c.args.at c.args.end c.args.line.now)) in
    let table : List ℕ = c.last_door.new.stamps in
    let few : c.args.count ≤ 254 = c.requires.count_bound.0 in
    let noted : Noted table c.args.line_no c.args.line.now c.args.count = noted_kept c.last_door.ensures.guessed few c.args.line_no c.args.line.now c.requires.noted in
    let entered_room : length (entered table c.args.count c.args.at c.args.end) ≡ ROOM = entered_length table c.args.count c.args.at c.args.end ∙ noted.places in
    rw length-set (omega (arith, below, ap length c.enter.ensures, entered_room))

pub returns-in_default : goal.returns-in_default
returns-in_default c =
    let name : Bytes = part c.args.at c.args.end c.args.line.now in
    let table : List ℕ = c.last_door.new.stamps in
    let few : c.args.count ≤ 254 = c.requires.count_bound.0 in
    let noted : Noted table c.args.line_no c.args.line.now c.args.count = noted_kept c.last_door.ensures.guessed few c.args.line_no c.args.line.now c.requires.noted in
    let none = subst (λ (k : ℕ). get_or table k 0 ≡ c.args.line_no → IsDoor c.args.count (get_or table (DOORS + k) 0) → ⊥) c.hash-h.ensures ((c.in_default.ensures {u = tt}).finds_door.none refl) in
    adds_kept c.last_door.ensures.guessed few c.args.line_no c.args.line.now (stamp_written c.args.line_no c.args.count c.enter.ensures c.hash-h.ensures)
    (adds_first noted few c.args.at c.args.end c.requires.count_bound.1 c.requires.count_bound.2 name refl none)

pub offset_bounds-stamps-door : goal.offset_bounds-stamps-door
offset_bounds-stamps-door c =
    let name : Bytes = part c.args.at c.args.end c.args.line.now in
    let table : List ℕ = c.last_door.new.stamps in
    let few : c.args.count ≤ 254 = c.requires.count_bound.0 in
    let door : ℕ = c.in-Some.door in
    let way : Way table c.args.count name door (DOORS + hash_of name) = subst (λ (k : ℕ). Way table c.args.count name door (DOORS + k)) c.hash-h.ensures ((c.in-Some.ensures {u = tt}).finds_door.1.way (λ z. omega (arith, z, (c.in-Some.ensures {u = tt}).finds_door.0))) in
    let door_below : door < 12288 = omega (arith, (way_range way (omega arith) (omega (arith, hash_below name))).1, few) in
    omega (arith, door_below)

pub bounds-stamps-door : goal.bounds-stamps-door
bounds-stamps-door c =
    let name : Bytes = part c.args.at c.args.end c.args.line.now in
    let table : List ℕ = c.last_door.new.stamps in
    let few : c.args.count ≤ 254 = c.requires.count_bound.0 in
    let noted : Noted table c.args.line_no c.args.line.now c.args.count = noted_kept c.last_door.ensures.guessed few c.args.line_no c.args.line.now c.requires.noted in
    let door : ℕ = c.in-Some.door in
    let way : Way table c.args.count name door (DOORS + hash_of name) = subst (λ (k : ℕ). Way table c.args.count name door (DOORS + k)) c.hash-h.ensures ((c.in-Some.ensures {u = tt}).finds_door.1.way (λ z. omega (arith, z, (c.in-Some.ensures {u = tt}).finds_door.0))) in
    let door_below : door < 12288 = omega (arith, (way_range way (omega arith) (omega (arith, hash_below name))).1, few) in
    omega (arith, door_below, noted.places)

pub overflow_add-start : goal.overflow_add-start
overflow_add-start c =
    let table : List ℕ = c.last_door.new.stamps in
    let few : c.args.count ≤ 254 = c.requires.count_bound.0 in
    let door : ℕ = c.in-Some.door in
    let ends : get_or table door 0 < c.args.count = (c.in-Some.ensures {u = tt}).finds_door.1.ends (λ z. omega (arith, z, (c.in-Some.ensures {u = tt}).finds_door.0)) in
    let number_below : (get_or c.last_door.new.stamps c.in-Some.door 0) < c.args.count = omega (arith, ends) in
    let number_few : (get_or c.last_door.new.stamps c.in-Some.door 0) < 254 = omega (arith, number_below, few) in
    omega (arith, number_few)

pub offset_bounds-stamps-k : goal.offset_bounds-stamps-k
offset_bounds-stamps-k c =
    let table : List ℕ = c.last_door.new.stamps in
    let few : c.args.count ≤ 254 = c.requires.count_bound.0 in
    let door : ℕ = c.in-Some.door in
    let ends : get_or table door 0 < c.args.count = (c.in-Some.ensures {u = tt}).finds_door.1.ends (λ z. omega (arith, z, (c.in-Some.ensures {u = tt}).finds_door.0)) in
    let number_below : (get_or c.last_door.new.stamps c.in-Some.door 0) < c.args.count = omega (arith, ends) in
    let number_few : (get_or c.last_door.new.stamps c.in-Some.door 0) < 254 = omega (arith, number_below, few) in
    omega (arith, number_few)

pub bounds-stamps-k : goal.bounds-stamps-k
bounds-stamps-k c =
    let table : List ℕ = c.last_door.new.stamps in
    let few : c.args.count ≤ 254 = c.requires.count_bound.0 in
    let noted : Noted table c.args.line_no c.args.line.now c.args.count = noted_kept c.last_door.ensures.guessed few c.args.line_no c.args.line.now c.requires.noted in
    let door : ℕ = c.in-Some.door in
    let ends : get_or table door 0 < c.args.count = (c.in-Some.ensures {u = tt}).finds_door.1.ends (λ z. omega (arith, z, (c.in-Some.ensures {u = tt}).finds_door.0)) in
    let number_below : (get_or c.last_door.new.stamps c.in-Some.door 0) < c.args.count = omega (arith, ends) in
    let number_few : (get_or c.last_door.new.stamps c.in-Some.door 0) < 254 = omega (arith, number_below, few) in
    omega (arith, number_few, noted.places)

pub overflow_add-stop : goal.overflow_add-stop
overflow_add-stop c =
    let table : List ℕ = c.last_door.new.stamps in
    let few : c.args.count ≤ 254 = c.requires.count_bound.0 in
    let door : ℕ = c.in-Some.door in
    let ends : get_or table door 0 < c.args.count = (c.in-Some.ensures {u = tt}).finds_door.1.ends (λ z. omega (arith, z, (c.in-Some.ensures {u = tt}).finds_door.0)) in
    let number_below : (get_or c.last_door.new.stamps c.in-Some.door 0) < c.args.count = omega (arith, ends) in
    let number_few : (get_or c.last_door.new.stamps c.in-Some.door 0) < 254 = omega (arith, number_below, few) in
    omega (arith, number_few)

pub offset_bounds-stamps-k-2 : goal.offset_bounds-stamps-k-2
offset_bounds-stamps-k-2 c =
    let table : List ℕ = c.last_door.new.stamps in
    let few : c.args.count ≤ 254 = c.requires.count_bound.0 in
    let door : ℕ = c.in-Some.door in
    let ends : get_or table door 0 < c.args.count = (c.in-Some.ensures {u = tt}).finds_door.1.ends (λ z. omega (arith, z, (c.in-Some.ensures {u = tt}).finds_door.0)) in
    let number_below : (get_or c.last_door.new.stamps c.in-Some.door 0) < c.args.count = omega (arith, ends) in
    let number_few : (get_or c.last_door.new.stamps c.in-Some.door 0) < 254 = omega (arith, number_below, few) in
    omega (arith, number_few)

pub bounds-stamps-k-2 : goal.bounds-stamps-k-2
bounds-stamps-k-2 c =
    let table : List ℕ = c.last_door.new.stamps in
    let few : c.args.count ≤ 254 = c.requires.count_bound.0 in
    let noted : Noted table c.args.line_no c.args.line.now c.args.count = noted_kept c.last_door.ensures.guessed few c.args.line_no c.args.line.now c.requires.noted in
    let door : ℕ = c.in-Some.door in
    let ends : get_or table door 0 < c.args.count = (c.in-Some.ensures {u = tt}).finds_door.1.ends (λ z. omega (arith, z, (c.in-Some.ensures {u = tt}).finds_door.0)) in
    let number_below : (get_or c.last_door.new.stamps c.in-Some.door 0) < c.args.count = omega (arith, ends) in
    let number_few : (get_or c.last_door.new.stamps c.in-Some.door 0) < 254 = omega (arith, number_below, few) in
    omega (arith, number_few, noted.places)

pub slice_bounds-other-count : goal.slice_bounds-other-count
slice_bounds-other-count c =
    let table : List ℕ = c.last_door.new.stamps in
    let few : c.args.count ≤ 254 = c.requires.count_bound.0 in
    let noted : Noted table c.args.line_no c.args.line.now c.args.count = noted_kept c.last_door.ensures.guessed few c.args.line_no c.args.line.now c.requires.noted in
    let door : ℕ = c.in-Some.door in
    let ends : get_or table door 0 < c.args.count = (c.in-Some.ensures {u = tt}).finds_door.1.ends (λ z. omega (arith, z, (c.in-Some.ensures {u = tt}).finds_door.0)) in
    let number_below : (get_or c.last_door.new.stamps c.in-Some.door 0) < c.args.count = omega (arith, ends) in
    let stands : ((get_or c.last_door.new.stamps (12544 + get_or c.last_door.new.stamps c.in-Some.door 0) 0) ≤ (get_or c.last_door.new.stamps (12800 + get_or c.last_door.new.stamps c.in-Some.door 0) 0)) × ((get_or c.last_door.new.stamps (12800 + get_or c.last_door.new.stamps c.in-Some.door 0) 0) ≤ length c.args.line.now) = let n = noted in
    let l = number_below in
    (omega (arith, n.starts (get_or c.last_door.new.stamps c.in-Some.door 0) l), omega (arith, n.ends (get_or c.last_door.new.stamps c.in-Some.door 0) l)) in
    stands.0

pub slice_bounds-other-start : goal.slice_bounds-other-start
slice_bounds-other-start c =
    let table : List ℕ = c.last_door.new.stamps in
    let few : c.args.count ≤ 254 = c.requires.count_bound.0 in
    let noted : Noted table c.args.line_no c.args.line.now c.args.count = noted_kept c.last_door.ensures.guessed few c.args.line_no c.args.line.now c.requires.noted in
    let door : ℕ = c.in-Some.door in
    let ends : get_or table door 0 < c.args.count = (c.in-Some.ensures {u = tt}).finds_door.1.ends (λ z. omega (arith, z, (c.in-Some.ensures {u = tt}).finds_door.0)) in
    let number_below : (get_or c.last_door.new.stamps c.in-Some.door 0) < c.args.count = omega (arith, ends) in
    let stands : ((get_or c.last_door.new.stamps (12544 + get_or c.last_door.new.stamps c.in-Some.door 0) 0) ≤ (get_or c.last_door.new.stamps (12800 + get_or c.last_door.new.stamps c.in-Some.door 0) 0)) × ((get_or c.last_door.new.stamps (12800 + get_or c.last_door.new.stamps c.in-Some.door 0) 0) ≤ length c.args.line.now) = let n = noted in
    let l = number_below in
    (omega (arith, n.starts (get_or c.last_door.new.stamps c.in-Some.door 0) l), omega (arith, n.ends (get_or c.last_door.new.stamps c.in-Some.door 0) l)) in
    omega (arith, stands)

pub slice_bounds-other-end : goal.slice_bounds-other-end
slice_bounds-other-end c =
    let table : List ℕ = c.last_door.new.stamps in
    let few : c.args.count ≤ 254 = c.requires.count_bound.0 in
    let noted : Noted table c.args.line_no c.args.line.now c.args.count = noted_kept c.last_door.ensures.guessed few c.args.line_no c.args.line.now c.requires.noted in
    let door : ℕ = c.in-Some.door in
    let ends : get_or table door 0 < c.args.count = (c.in-Some.ensures {u = tt}).finds_door.1.ends (λ z. omega (arith, z, (c.in-Some.ensures {u = tt}).finds_door.0)) in
    let number_below : (get_or c.last_door.new.stamps c.in-Some.door 0) < c.args.count = omega (arith, ends) in
    let stands : ((get_or c.last_door.new.stamps (12544 + get_or c.last_door.new.stamps c.in-Some.door 0) 0) ≤ (get_or c.last_door.new.stamps (12800 + get_or c.last_door.new.stamps c.in-Some.door 0) 0)) × ((get_or c.last_door.new.stamps (12800 + get_or c.last_door.new.stamps c.in-Some.door 0) 0) ≤ length c.args.line.now) = let n = noted in
    let l = number_below in
    (omega (arith, n.starts (get_or c.last_door.new.stamps c.in-Some.door 0) l), omega (arith, n.ends (get_or c.last_door.new.stamps c.in-Some.door 0) l)) in
    omega (arith, stands)

pub is_astray-astray-requires : goal.is_astray-astray-requires
is_astray-astray-requires c =
    let name : Bytes = part c.args.at c.args.end c.args.line.now in
    let table : List ℕ = c.last_door.new.stamps in
    let few : c.args.count ≤ 254 = c.requires.count_bound.0 in
    let noted : Noted table c.args.line_no c.args.line.now c.args.count = noted_kept c.last_door.ensures.guessed few c.args.line_no c.args.line.now c.requires.noted in
    let door : ℕ = c.in-Some.door in
    let way : Way table c.args.count name door (DOORS + hash_of name) = subst (λ (k : ℕ). Way table c.args.count name door (DOORS + k)) c.hash-h.ensures ((c.in-Some.ensures {u = tt}).finds_door.1.way (λ z. omega (arith, z, (c.in-Some.ensures {u = tt}).finds_door.0))) in
    let door_below : door < 12288 = omega (arith, (way_range way (omega arith) (omega (arith, hash_below name))).1, few) in
    record { stamps_len = noted.places; door_bound = omega (arith, door_below) }

pub enter-requires-2 : goal.enter-requires-2
enter-requires-2 c =
    let table : List ℕ = c.last_door.new.stamps in
    let few : c.args.count ≤ 254 = c.requires.count_bound.0 in
    let noted : Noted table c.args.line_no c.args.line.now c.args.count = noted_kept c.last_door.ensures.guessed few c.args.line_no c.args.line.now c.requires.noted in
    record { stamps_len = noted.places; count_bound = search rules }

pub overflow_add-result : goal.overflow_add-result
overflow_add-result c =
    let table : List ℕ = c.last_door.new.stamps in
    let few : c.args.count ≤ 254 = c.requires.count_bound.0 in
    let door : ℕ = c.in-Some.door in
    let ends : get_or table door 0 < c.args.count = (c.in-Some.ensures {u = tt}).finds_door.1.ends (λ z. omega (arith, z, (c.in-Some.ensures {u = tt}).finds_door.0)) in
    omega (arith, ends, few)

pub returns-then-ask : goal.returns-then-ask
returns-then-ask c =
    let name : Bytes = part c.args.at c.args.end c.args.line.now in
    let table : List ℕ = c.last_door.new.stamps in
    let few : c.args.count ≤ 254 = c.requires.count_bound.0 in
    let noted : Noted table c.args.line_no c.args.line.now c.args.count = noted_kept c.last_door.ensures.guessed few c.args.line_no c.args.line.now c.requires.noted in
    let door : ℕ = c.in-Some.door in
    let way : Way table c.args.count name door (DOORS + hash_of name) = subst (λ (k : ℕ). Way table c.args.count name door (DOORS + k)) c.hash-h.ensures ((c.in-Some.ensures {u = tt}).finds_door.1.way (λ z. omega (arith, z, (c.in-Some.ensures {u = tt}).finds_door.0))) in
    let stamped : get_or table (hash_of name) 0 ≡ c.args.line_no = subst (λ (k : ℕ). get_or table k 0 ≡ c.args.line_no) c.hash-h.ensures ((c.in-Some.ensures {u = tt}).finds_door.1.stamped (λ z. omega (arith, z, (c.in-Some.ensures {u = tt}).finds_door.0))) in
    let ends : get_or table door 0 < c.args.count = (c.in-Some.ensures {u = tt}).finds_door.1.ends (λ z. omega (arith, z, (c.in-Some.ensures {u = tt}).finds_door.0)) in
    let there : Bytes = name_at table c.args.line.now (get_or table door 0) in
    let other_name : part (get_or c.last_door.new.stamps (12544 + get_or c.last_door.new.stamps c.in-Some.door 0) 0) (get_or c.last_door.new.stamps (12800 + get_or c.last_door.new.stamps c.in-Some.door 0) 0) c.args.line.now ≡ there = name_there table c.args.line.now door refl refl refl in
    let equal : c.question-ask.result ≡ SAME → there ≡ name = λ e. sym (c.question-ask.ensures.a_value e ∙ other_name) in
    adds_kept c.last_door.ensures.guessed few c.args.line_no c.args.line.now c.enter-2.ensures
    (adds_again noted few c.args.at c.args.end c.requires.count_bound.1 c.requires.count_bound.2 name refl stamped door way ends (equal c.if-ask.true))

pub offset_bounds-stamps-door-then-astray : goal.offset_bounds-stamps-door-then-astray
offset_bounds-stamps-door-then-astray c =
    let name : Bytes = part c.args.at c.args.end c.args.line.now in
    let table : List ℕ = c.last_door.new.stamps in
    let few : c.args.count ≤ 254 = c.requires.count_bound.0 in
    let door : ℕ = c.in-Some.door in
    let way : Way table c.args.count name door (DOORS + hash_of name) = subst (λ (k : ℕ). Way table c.args.count name door (DOORS + k)) c.hash-h.ensures ((c.in-Some.ensures {u = tt}).finds_door.1.way (λ z. omega (arith, z, (c.in-Some.ensures {u = tt}).finds_door.0))) in
    let door_below : door < 12288 = omega (arith, (way_range way (omega arith) (omega (arith, hash_below name))).1, few) in
    omega (arith, door_below)

-- the door is free
pub bounds-stamps-door-then-astray : goal.bounds-stamps-door-then-astray
bounds-stamps-door-then-astray c =
    let name : Bytes = part c.args.at c.args.end c.args.line.now in
    let table : List ℕ = c.last_door.new.stamps in
    let few : c.args.count ≤ 254 = c.requires.count_bound.0 in
    let noted : Noted table c.args.line_no c.args.line.now c.args.count = noted_kept c.last_door.ensures.guessed few c.args.line_no c.args.line.now c.requires.noted in
    let entered_room : length (entered table c.args.count c.args.at c.args.end) ≡ ROOM = entered_length table c.args.count c.args.at c.args.end ∙ noted.places in
    let door : ℕ = c.in-Some.door in
    let way : Way table c.args.count name door (DOORS + hash_of name) = subst (λ (k : ℕ). Way table c.args.count name door (DOORS + k)) c.hash-h.ensures ((c.in-Some.ensures {u = tt}).finds_door.1.way (λ z. omega (arith, z, (c.in-Some.ensures {u = tt}).finds_door.0))) in
    let door_below : door < 12288 = omega (arith, (way_range way (omega arith) (omega (arith, hash_below name))).1, few) in
    omega (arith, door_below, ap length c.enter-2.ensures, entered_room)

pub returns-then-astray : goal.returns-then-astray
returns-then-astray c =
    let name : Bytes = part c.args.at c.args.end c.args.line.now in
    let table : List ℕ = c.last_door.new.stamps in
    let few : c.args.count ≤ 254 = c.requires.count_bound.0 in
    let noted : Noted table c.args.line_no c.args.line.now c.args.count = noted_kept c.last_door.ensures.guessed few c.args.line_no c.args.line.now c.requires.noted in
    let door : ℕ = c.in-Some.door in
    let way : Way table c.args.count name door (DOORS + hash_of name) = subst (λ (k : ℕ). Way table c.args.count name door (DOORS + k)) c.hash-h.ensures ((c.in-Some.ensures {u = tt}).finds_door.1.way (λ z. omega (arith, z, (c.in-Some.ensures {u = tt}).finds_door.0))) in
    let stamped : get_or table (hash_of name) 0 ≡ c.args.line_no = subst (λ (k : ℕ). get_or table k 0 ≡ c.args.line_no) c.hash-h.ensures ((c.in-Some.ensures {u = tt}).finds_door.1.stamped (λ z. omega (arith, z, (c.in-Some.ensures {u = tt}).finds_door.0))) in
    let ends : get_or table door 0 < c.args.count = (c.in-Some.ensures {u = tt}).finds_door.1.ends (λ z. omega (arith, z, (c.in-Some.ensures {u = tt}).finds_door.0)) in
    let there : Bytes = name_at table c.args.line.now (get_or table door 0) in
    let other_name : part (get_or c.last_door.new.stamps (12544 + get_or c.last_door.new.stamps c.in-Some.door 0) 0) (get_or c.last_door.new.stamps (12800 + get_or c.last_door.new.stamps c.in-Some.door 0) 0) c.args.line.now ≡ there = name_there table c.args.line.now door refl refl refl in
    let parted : (c.question-ask.result ≡ SAME → ⊥) → side_of c.question-ask.result name ≡ side_of c.question-ask.result there → ⊥ = λ e q. c.question-ask.ensures.fact e (q ∙ ap (side_of c.question-ask.result) (sym other_name)) in
    let unequal : (c.question-ask.result ≡ SAME → ⊥) → there ≡ name → ⊥ = λ e q. parted e (ap (side_of c.question-ask.result) (sym q)) in
    let astray = subst (λ (b : Bytes). Astray table door b) other_name (c.is_astray-astray.ensures c.if-astray.true) in
    adds_kept c.last_door.ensures.guessed few c.args.line_no c.args.line.now (ap (λ (t : List ℕ). set t door c.args.count) c.enter-2.ensures)
    (adds_over noted few c.args.at c.args.end c.requires.count_bound.1 c.requires.count_bound.2 name refl stamped door way ends (unequal c.if-ask.false) astray)

pub put_fork-requires : goal.put_fork-requires
put_fork-requires c =
    let name : Bytes = part c.args.at c.args.end c.args.line.now in
    let table : List ℕ = c.last_door.new.stamps in
    let few : c.args.count ≤ 254 = c.requires.count_bound.0 in
    let noted : Noted table c.args.line_no c.args.line.now c.args.count = noted_kept c.last_door.ensures.guessed few c.args.line_no c.args.line.now c.requires.noted in
    let entered_room : length (entered table c.args.count c.args.at c.args.end) ≡ ROOM = entered_length table c.args.count c.args.at c.args.end ∙ noted.places in
    let door : ℕ = c.in-Some.door in
    let way : Way table c.args.count name door (DOORS + hash_of name) = subst (λ (k : ℕ). Way table c.args.count name door (DOORS + k)) c.hash-h.ensures ((c.in-Some.ensures {u = tt}).finds_door.1.way (λ z. omega (arith, z, (c.in-Some.ensures {u = tt}).finds_door.0))) in
    let door_below : door < 12288 = omega (arith, (way_range way (omega arith) (omega (arith, hash_below name))).1, few) in
    let there : Bytes = name_at table c.args.line.now (get_or table door 0) in
    let other_name : part (get_or c.last_door.new.stamps (12544 + get_or c.last_door.new.stamps c.in-Some.door 0) 0) (get_or c.last_door.new.stamps (12800 + get_or c.last_door.new.stamps c.in-Some.door 0) 0) c.args.line.now ≡ there = name_there table c.args.line.now door refl refl refl in
    let their_side : c.side-their.result ≡ side_of c.question-ask.result there = c.side-their.ensures ∙ ap (side_of c.question-ask.result) other_name in
    record {
      stamps_len = ap length c.enter-2.ensures ∙ entered_room;
      door_lt_room = (omega (arith, door_below), few, rw their_side (side_below c.question-ask.result there));
    }

pub returns : goal.returns
returns c =
    let name : Bytes = part c.args.at c.args.end c.args.line.now in
    let table : List ℕ = c.last_door.new.stamps in
    let few : c.args.count ≤ 254 = c.requires.count_bound.0 in
    let noted : Noted table c.args.line_no c.args.line.now c.args.count = noted_kept c.last_door.ensures.guessed few c.args.line_no c.args.line.now c.requires.noted in
    let door : ℕ = c.in-Some.door in
    let way : Way table c.args.count name door (DOORS + hash_of name) = subst (λ (k : ℕ). Way table c.args.count name door (DOORS + k)) c.hash-h.ensures ((c.in-Some.ensures {u = tt}).finds_door.1.way (λ z. omega (arith, z, (c.in-Some.ensures {u = tt}).finds_door.0))) in
    let stamped : get_or table (hash_of name) 0 ≡ c.args.line_no = subst (λ (k : ℕ). get_or table k 0 ≡ c.args.line_no) c.hash-h.ensures ((c.in-Some.ensures {u = tt}).finds_door.1.stamped (λ z. omega (arith, z, (c.in-Some.ensures {u = tt}).finds_door.0))) in
    let ends : get_or table door 0 < c.args.count = (c.in-Some.ensures {u = tt}).finds_door.1.ends (λ z. omega (arith, z, (c.in-Some.ensures {u = tt}).finds_door.0)) in
    let there : Bytes = name_at table c.args.line.now (get_or table door 0) in
    let other_name : part (get_or c.last_door.new.stamps (12544 + get_or c.last_door.new.stamps c.in-Some.door 0) 0) (get_or c.last_door.new.stamps (12800 + get_or c.last_door.new.stamps c.in-Some.door 0) 0) c.args.line.now ≡ there = name_there table c.args.line.now door refl refl refl in
    let parted : (c.question-ask.result ≡ SAME → ⊥) → side_of c.question-ask.result name ≡ side_of c.question-ask.result there → ⊥ = λ e q. c.question-ask.ensures.fact e (q ∙ ap (side_of c.question-ask.result) (sym other_name)) in
    let their_side : c.side-their.result ≡ side_of c.question-ask.result there = c.side-their.ensures ∙ ap (side_of c.question-ask.result) other_name in
    adds_kept c.last_door.ensures.guessed few c.args.line_no c.args.line.now (c.put_fork.ensures ∙ fork_written door c.args.count c.question-ask.result c.enter-2.ensures their_side)
    (adds_fork noted few c.args.at c.args.end c.requires.count_bound.1 c.requires.count_bound.2 name refl stamped door way ends c.question-ask.result (parted c.if-ask.false))
