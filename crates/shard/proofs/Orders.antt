-- Records in order: beginnings of them, how many they are, and what a shard may take.
use Rattle.shard.proofs.Common.{◌≡◌, ℕ, ◌+◌, ◌-◌, ◌≤◌, ◌^◌, false, List, [], ◌∷◌, ◌++◌, length, ◌==◌, ◌↔◌, ⊎_elim, refl, sym, ap, subst, ◌∙◌, arith, append_assoc, cases_Bool, Record, Spawn, Call, Return, Sync, Read, Write, Placed, opens, closes, bags-after_record, root_is, root_by, State, SpBags, Accepts, HasApplied, is_root_return, ShardState, IsFresh, state_of, ◌||◌, Follow, AreInOrder, MayTake}
use Rattle.bags.specs.Procedures.{Procedures, Active, event, after_sync, after_return}
use Rattle.shard.proofs.Follows.{following}

front_empty : (u rest : List Placed) → u ++ rest ≡ [] → u ≡ []
front_empty [] rest e = refl
front_empty (p ∷ u) rest e = absurd (cc)

-- a beginning of records in order
pub Follow-front : (m n : ℕ) (u rest : List Placed) → Follow m n (u ++ rest) → Follow m n u
Follow-front m n [] rest h = tt
Follow-front m n (p ∷ u) rest h = (h.0, h.1, (λ is one. front_empty u rest (h.2 is one)), Follow-front p.place _ u rest h.3)

pub in_order-front : (u rest : List Placed) → AreInOrder (u ++ rest) → AreInOrder u
in_order-front u rest h = (following u).1 (Follow-front 0 1 u rest ((following (u ++ rest)).0 h))

-- from an earlier place on
pub Follow-earlier : (m l n : ℕ) (u : List Placed) → l ≤ m → Follow m n u → Follow l n u
Follow-earlier m l n [] le h = tt
Follow-earlier m l n (p ∷ u) le h = let lt = h.0 in (omega arith, h.1, h.2, h.3)

-- there are no more of them than places
length-follow : (m n : ℕ) (u : List Placed) → m ≤ 2 ^ 48 → Follow m n u → m + length u ≤ 2 ^ 48
length-follow m n [] le h = omega arith
length-follow m n (p ∷ u) le h =
    let lt = h.0 in
    let more = length-follow p.place _ u h.1 h.3 in
    omega arith

pub length-in_order : (u : List Placed) → AreInOrder u → length u ≤ 2 ^ 48
length-in_order u h = let few = length-follow 0 1 u (omega arith) ((following u).0 h) in omega arith

pub length-sync : (fs : List Active) → length (after_sync fs) ≡ length fs
length-sync [] = refl
length-sync (f ∷ fs) = refl

length-return : (fs : List Active) → (length fs == 1) ≡ false → length (after_return fs) ≡ (length fs + 0) - 1
length-return [] e = omega arith
length-return (f ∷ []) e = absurd (cc)
length-return (g ∷ f ∷ fs) e = omega arith

-- how many procedures are active after a record
pub length-event : (b : Procedures) (r : Record) → is_root_return b r ≡ false → length (event b r).active ≡ (length b.active + opens r) - closes r
length-event b Spawn e = omega arith
length-event b Call e = omega arith
length-event b Return e = length-return b.active e
length-event b Sync e = length-sync b.active ∙ omega arith
length-event b (Read l) e = omega arith
length-event b (Write l) e = omega arith

-- a new shard may take any records in order
pub takes_new : (s : ShardState) → IsFresh s → (rest : List Placed) → AreInOrder rest ↔ MayTake s.sp_bags rest
takes_new s new rest =
    let start = new.at_start in
    let one : length s.sp_bags.bags.active ≡ 1 = ap (λ (t : State). length t.bags.active) start.state in
    let P : ℕ → Type 0 = λ m. Follow m 1 rest in
    let Q : ℕ → Type 0 = λ n. Follow s.sp_bags.last_place n rest in (
      (λ h. record { after_end = λ e. absurd (let z = start.running in cc); before_end = λ e. subst Q (sym one) (subst P (sym start.last_place) ((following rest).0 h)) }),
      (λ m. (following rest).1 (subst P start.last_place (subst Q one (m.before_end start.running)))),
    )

pub takes_none : (s : SpBags) → MayTake s []
takes_none s = record { after_end = λ e. refl; before_end = λ e. tt }

-- what comes next is accepted
pub takes_next : (s : SpBags) (p : Placed) → MayTake s (p ∷ []) → Accepts s p.place
takes_next s p m = ⊎_elim
    (λ e. let z = m.after_end e in absurd (cc))
    (λ e. let h = m.before_end e in record { later = h.0; to_limit = h.1; running = e })
    (cases_Bool s.ended)

pub takes_one : (s : SpBags) (p : Placed) → Accepts s p.place → MayTake s (p ∷ [])
takes_one s p a = record { after_end = λ e. absurd (let z = a.running in cc); before_end = λ e. (a.later, a.to_limit, (λ is one. refl), tt) }

-- what may be taken after one more record
module _ (u : List Placed) (p : Placed) (s z : SpBags) (a : Accepts s p.place) (h : HasApplied p s z) (rest : List Placed) where
  ended : z.ended ≡ is_root_return s.bags p.what
  ended = h.ended ∙ ap (λ b. b || is_root_return s.bags p.what) a.running

  active : z.ended ≡ false → length z.bags.active ≡ (length s.bags.active + opens p.what) - closes p.what
  active e = ap (λ (t : State). length t.bags.active) h.state ∙ ap (λ (b : Procedures). length b.active) (bags-after_record (state_of s) p.place p.what) ∙ length-event s.bags p.what (sym ended ∙ e)

  to_next : MayTake s (p ∷ rest) → MayTake z rest
  to_next m =
      let f = m.before_end a.running in
      let P : ℕ → Type 0 = λ q. Follow q ((length s.bags.active + opens p.what) - closes p.what) rest in
      let Q : ℕ → Type 0 = λ n. Follow z.last_place n rest in
      record {
        after_end = λ e. let r = root_is s.bags p.what (sym ended ∙ e) in f.2 r.0 r.1;
        before_end = λ e. subst Q (sym (active e)) (subst P (sym h.last_place) f.3);
      }

  from_next : MayTake z rest → MayTake s (p ∷ rest)
  from_next m =
      let P : ℕ → Type 0 = λ q. Follow q ((length s.bags.active + opens p.what) - closes p.what) rest in
      let Q : ℕ → Type 0 = λ n. Follow z.last_place n rest in
      let E : List Placed → Type 0 = λ v. Follow p.place ((length s.bags.active + opens p.what) - closes p.what) v in
      record {
        after_end = λ e. absurd (let w = a.running in cc);
        before_end = λ e. (
          a.later,
          a.to_limit,
          (λ is one. m.after_end (ended ∙ root_by s.bags p.what is one)),
          ⊎_elim (λ t. subst E (sym (m.after_end t)) tt) (λ f. subst P h.last_place (subst Q (active f) (m.before_end f))) (cases_Bool z.ended),
        );
      }

  pub takes_after : AreInOrder (u ++ p ∷ rest) ↔ MayTake s (p ∷ rest) → AreInOrder ((u ++ p ∷ []) ++ rest) ↔ MayTake z rest
  takes_after i =
      let same : (u ++ p ∷ []) ++ rest ≡ u ++ p ∷ rest = append_assoc u (p ∷ []) rest in
      let P : List Placed → Type 0 = AreInOrder in
      ((λ o. to_next (i.0 (subst P same o))), (λ m. subst P (sym same) (i.1 (from_next m))))
