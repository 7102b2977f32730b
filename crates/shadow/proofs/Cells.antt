-- What a cell holds, said by paths: the last write, the kept reader, and whether a race has come.
use Rattle.shadow.proofs.Common.{◌≡◌, ℕ, suc, ◌<◌, ◌≤◌, Bool, true, false, ◌||◌, is_some, cond, List, Option, Some, None, ◌↔◌, inl, inr, ⊎_elim, refl, sym, subst, arith, option_or, cases_lt, Record, Kind, Read, Write, Access, IsPlace, IsWellNested, IsParallel, Leads, IsAccess, IsAccessPlace, IsRead, IsWrite, IsRace, IsLastWrite, IsKeptReader, IsReported, nothing_yet, no_read, first_read, replaces, stays, Active, in_p, current, procedure_at, Cell, Name, untouched, parallel_access, name_of, reader_after, rival, touched, IsPlace-at, leads_or_parallel, NoneBefore, NoWrite, NoRead, last_write_parallel, no_read_parallel, kept_reads, reported_by_write, reported_by_reader, no_race_at_read, no_race_at_write, read_no_write}

-- a P-bag holds the procedure of a place up to t just where the place is parallel to the next
abbrev pub Sees : List Record → ℕ → List Active → Type 0
Sees w t fs = (i : ℕ) → IsPlace w i → i ≤ t → (in_p fs (procedure_at w i) ≡ true) ↔ IsParallel w i (suc t)

-- the kept writer before place j: the last write, by the procedure that executed it
abbrev pub IsWriter : List Record → ℕ → ℕ → Option Name → Type 0
IsWriter w l j None = (i : ℕ) → IsWrite w l i → i < j → ⊥
IsWriter w l j (Some n) = IsLastWrite w l j n.place × (n.procedure ≡ procedure_at w n.place)

abbrev pub place_of : Option Name → Option ℕ
place_of None = None
place_of (Some n) = Some n.place

abbrev pub IsNamed : List Record → Option Name → Type 0
IsNamed w None = Unit {0}
IsNamed w (Some n) = n.procedure ≡ procedure_at w n.place

-- the kept reader before place j
pub record IsReader (w : List Record) (l j : ℕ) (o : Option Name) : Type 0 where
  pub kept : IsKeptReader w l j (place_of o)
  pub named : IsNamed w o

-- whether a race of the location has its second place up to t
abbrev pub HasReported : List Record → ℕ → ℕ → Bool → Type 0
HasReported w l t true = (i : ℕ) × (j : ℕ) × IsRace w l i j × (j ≤ t)
HasReported w l t false = NoneBefore w l (suc t)

-- the cell of location l after the records up to t
pub record IsCell (w : List Record) (l t : ℕ) (c : Cell) : Type 0 where
  pub writer : IsWriter w l (suc t) c.writer
  pub reader : IsReader w l (suc t) c.reader
  pub reported : HasReported w l t c.reported

-- what the kept writer says of place j, where no race came before
abbrev pub WriterSays : List Record → ℕ → ℕ → Option Access → Type 0
WriterSays w l j None = NoWrite w l j
WriterSays w l j (Some f) = (f.kind ≡ Write) × IsLastWrite w l j f.place × IsParallel w f.place j

abbrev pub ReaderSays : List Record → ℕ → ℕ → Option Access → Type 0
ReaderSays w l j None = NoRead w l j
ReaderSays w l j (Some f) = (f.kind ≡ Read) × IsKeptReader w l j (Some f.place) × IsParallel w f.place j

-- what the rules say of place j, where no race came before
abbrev pub RivalSays : List Record → ℕ → ℕ → Kind → Option Access → Type 0
RivalSays w l j k None = (i : ℕ) → IsRace w l i j → ⊥
RivalSays w l j k (Some f) = IsReported w (record { location = l; first = f; second = record { kind = k; place = j } })

-- whether a kept name stands in a P-bag
name_sees : (w : List Record) (t : ℕ) (fs : List Active) → Sees w t fs → (n : Name) → n.procedure ≡ procedure_at w n.place → IsPlace w n.place → n.place ≤ t → (in_p fs n.procedure ≡ true) ↔ IsParallel w n.place (suc t)
name_sees w t fs s n e p h = subst (λ (q : ℕ). (in_p fs q ≡ true) ↔ IsParallel w n.place (suc t)) (sym e) (s n.place p h)

writer_test : (w : List Record) {n d : ℕ} → IsWellNested w n d → (l j : ℕ) → IsAccessPlace w j → NoneBefore w l j → (n : Name) → IsLastWrite w l j n.place → (b : Bool) → (b ≡ true) ↔ IsParallel w n.place j → WriterSays w l j (cond b (Some (record { kind = Write; place = n.place })) None)
writer_test w v l j y f n a true h = (refl, a, h.0 refl)
writer_test w v l j y f n a false h = λ i b g p. let q = h.1 (last_write_parallel w v l j i n.place y f b g p a) in absurd (cc)

writer_says : (w : List Record) {n d : ℕ} → IsWellNested w n d → (l t : ℕ) (fs : List Active) → Sees w t fs → IsAccessPlace w (suc t) → NoneBefore w l (suc t) → (o : Option Name) → IsWriter w l (suc t) o → WriterSays w l (suc t) (parallel_access fs Write o)
writer_says w v l t fs s y f None a = λ i b g p. a i b g
writer_says w v l t fs s y f (Some n) a =
    let x = a.0 in
    writer_test w v l (suc t) y f n x (in_p fs n.procedure) (name_sees w t fs s n a.1 (IsPlace-at w n.place _ x.a_write) (omega (arith, x.before)))

reader_test : (w : List Record) {n d : ℕ} → IsWellNested w n d → (l j : ℕ) → IsAccessPlace w j → (n : Name) → IsKeptReader w l j (Some n.place) → (b : Bool) → (b ≡ true) ↔ IsParallel w n.place j → ReaderSays w l j (cond b (Some (record { kind = Read; place = n.place })) None)
reader_test w v l j y n a true h = (refl, a, h.0 refl)
reader_test w v l j y n a false h = no_read_parallel w v l j y (Some n.place) a (λ k e p. let s : k ≡ n.place = cc in let q = h.1 (subst (λ (z : ℕ). IsParallel w z j) s p) in absurd (cc))

reader_says : (w : List Record) {n d : ℕ} → IsWellNested w n d → (l t : ℕ) (fs : List Active) → Sees w t fs → IsAccessPlace w (suc t) → (o : Option Name) → IsReader w l (suc t) o → ReaderSays w l (suc t) (parallel_access fs Read o)
reader_says w v l t fs s y None a = no_read_parallel w v l (suc t) y None a.kept (λ k e p. absurd (cc))
reader_says w v l t fs s y (Some n) a =
    let x = kept_reads w l a.kept n.place refl in
    reader_test w v l (suc t) y n a.kept (in_p fs n.procedure) (name_sees w t fs s n a.named (IsPlace-at w n.place _ x.0) (omega (arith, x.1)))

of_kind : (w : List Record) (l j : ℕ) (k q : Kind) (f : Access) → f.kind ≡ q → IsReported w (record { location = l; first = record { kind = q; place = f.place }; second = record { kind = k; place = j } }) → RivalSays w l j k (Some f)
of_kind w l j k q f e a = subst (λ (z : Kind). IsReported w (record { location = l; first = record { kind = z; place = f.place }; second = record { kind = k; place = j } })) (sym e) a

rival_at_read : (w : List Record) (l j : ℕ) → IsRead w l j → NoneBefore w l j → (o : Option Access) → WriterSays w l j o → RivalSays w l j Read o
rival_at_read w l j a f None h = no_race_at_read w l j a h
rival_at_read w l j a f (Some x) h = of_kind w l j Read Write x h.0 (reported_by_write w l x.place j Read f a h.1 h.2)

rival_at_write : (w : List Record) (l j : ℕ) → IsWrite w l j → NoneBefore w l j → (o p : Option Access) → WriterSays w l j o → ReaderSays w l j p → RivalSays w l j Write (option_or o p)
rival_at_write w l j a f None None h g = no_race_at_write w l j h g
rival_at_write w l j a f None (Some y) h g = of_kind w l j Write Read y g.0 (reported_by_reader w l y.place j f a (λ k b p. h k b.a_write b.before p) g.1 g.2)
rival_at_write w l j a f (Some x) p h g = of_kind w l j Write Write x h.0 (reported_by_write w l x.place j Write f a h.1 h.2)

-- the rules see the first race of a location, and report it as it is to be reported
pub rival_says : (w : List Record) {n d : ℕ} → IsWellNested w n d → (l t : ℕ) (fs : List Active) → Sees w t fs → (k : Kind) → IsAccess w l (suc t) k → NoneBefore w l (suc t) → (c : Cell) → IsWriter w l (suc t) c.writer → IsReader w l (suc t) c.reader → RivalSays w l (suc t) k (rival fs k c)
rival_says w v l t fs s Read a f c b g = rival_at_read w l (suc t) a f _ (writer_says w v l t fs s (l, inl a) f c.writer b)
rival_says w v l t fs s Write a f c b g = rival_at_write w l (suc t) a f _ _ (writer_says w v l t fs s (l, inr a) f c.writer b) (reader_says w v l t fs s (l, inr a) c.reader g)

-- One record further.

-- nothing accesses the location at place j
abbrev pub IsElsewhere : List Record → ℕ → ℕ → Type 0
IsElsewhere w l j = (k : Kind) → IsAccess w l j k → ⊥

writer_stays : (w : List Record) (l j : ℕ) → (IsWrite w l j → ⊥) → (o : Option Name) → IsWriter w l j o → IsWriter w l (suc j) o
writer_stays w l j f None a = λ i b h. ⊎_elim (λ (s : i < j). a i b s) (λ (s : j ≤ i). f (subst (IsWrite w l) (omega arith) b)) (cases_lt i j)
writer_stays w l j f (Some n) a =
    let x = a.0 in
    (record { before = omega (arith, x.before); a_write = x.a_write; none_between = λ k g h b. ⊎_elim (λ (s : k < j). x.none_between k g s b) (λ (s : j ≤ k). f (subst (IsWrite w l) (omega arith) b)) (cases_lt k j) }, a.1)

writer_new : (w : List Record) (l j : ℕ) (fs : List Active) → current fs ≡ procedure_at w j → IsWrite w l j → IsWriter w l (suc j) (name_of fs j)
writer_new w l j fs e a = (record { before = omega arith; a_write = a; none_between = λ k g h b. absurd (omega arith) }, e)

reader_stays : (w : List Record) (l j : ℕ) → (IsRead w l j → ⊥) → (o : Option Name) → IsReader w l j o → IsReader w l (suc j) o
reader_stays w l j f o a = record { kept = no_read f a.kept; named = a.named }

reader_new : (w : List Record) {n d : ℕ} → IsWellNested w n d → (l t : ℕ) (fs : List Active) → Sees w t fs → current fs ≡ procedure_at w (suc t) → IsRead w l (suc t) → (o : Option Name) → IsReader w l (suc t) o → IsReader w l (suc (suc t)) (reader_after fs (suc t) o)
reader_new w v l t fs s e a None r = record { kept = first_read a r.kept; named = e }
reader_new w v l t fs s e a (Some n) r =
    let x = kept_reads w l r.kept n.place refl in
    go x.0 x.1 (in_p fs n.procedure) (name_sees w t fs s n r.named (IsPlace-at w n.place _ x.0) (omega (arith, x.1)))
  where
    go : IsRead w l n.place → n.place < suc t → (b : Bool) → (b ≡ true) ↔ IsParallel w n.place (suc t) → IsReader w l (suc (suc t)) (cond b (Some n) (name_of fs (suc t)))
    go c h true p = record { kept = stays a (p.0 refl).not_forth r.kept; named = r.named }
    go c h false p = record {
      kept = ⊎_elim (λ (q : Leads w n.place (suc t)). replaces a q r.kept) (λ (q : IsParallel w n.place (suc t)). let z = p.1 q in absurd (cc))
          (leads_or_parallel w v n.place (suc t) (IsPlace-at w n.place _ c) (IsPlace-at w (suc t) _ a) h);
      named = e;
    }

reported_later : (w : List Record) (l t : ℕ) (b : Bool) → ((i : ℕ) → IsRace w l i (suc t) → ⊥) → HasReported w l t b → HasReported w l (suc t) b
reported_later w l t true f a = (a.0, a.1, a.2, omega (arith, a.3))
reported_later w l t false f a = λ h k r g. ⊎_elim (λ (s : k < suc t). a h k r s) (λ (s : suc t ≤ k). f h (subst (IsRace w l h) (omega arith) r)) (cases_lt k (suc t))

reported_new : (w : List Record) (l t : ℕ) (k : Kind) (b : Bool) (o : Option Access) → (NoneBefore w l (suc t) → RivalSays w l (suc t) k o) → HasReported w l t b → HasReported w l (suc t) (b || is_some o)
reported_new w l t k true o f a = (a.0, a.1, a.2, omega (arith, a.3))
reported_new w l t k false None f a = reported_later w l t false (f a) a
reported_new w l t k false (Some x) f a = let z = (f a).second in (z.race.0, suc t, z.race.1, omega arith)

elsewhere_no_race : (w : List Record) (l j : ℕ) → IsElsewhere w l j → (i : ℕ) → IsRace w l i j → ⊥
elsewhere_no_race w l j f i r = ⊎_elim (f Read) (f Write) r.second

-- a record that doesn't access the location leaves its cell right
pub cell_stays : (w : List Record) (l t : ℕ) (c : Cell) → IsElsewhere w l (suc t) → IsCell w l t c → IsCell w l (suc t) c
cell_stays w l t c f a = record {
  writer = writer_stays w l (suc t) (f Write) c.writer a.writer;
  reader = reader_stays w l (suc t) (f Read) c.reader a.reader;
  reported = reported_later w l t c.reported (elsewhere_no_race w l (suc t) f) a.reported;
}

-- an access of the location leaves its cell right
pub cell_touched : (w : List Record) {n d : ℕ} → IsWellNested w n d → (l t : ℕ) (fs : List Active) → Sees w t fs → current fs ≡ procedure_at w (suc t) → (k : Kind) → IsAccess w l (suc t) k → (c : Cell) → IsCell w l t c → IsCell w l (suc t) (touched fs k (suc t) c)
cell_touched w v l t fs s e Read a c x = record {
  writer = writer_stays w l (suc t) (read_no_write w l (suc t) a) c.writer x.writer;
  reader = reader_new w v l t fs s e a c.reader x.reader;
  reported = reported_new w l t Read c.reported _ (λ f. rival_says w v l t fs s Read a f c x.writer x.reader) x.reported;
}
cell_touched w v l t fs s e Write a c x = record {
  writer = writer_new w l (suc t) fs e a;
  reader = reader_stays w l (suc t) (λ r. read_no_write w l (suc t) r a) c.reader x.reader;
  reported = reported_new w l t Write c.reported _ (λ f. rival_says w v l t fs s Write a f c x.writer x.reader) x.reported;
}

-- before the first record
pub cell_start : (w : List Record) (l : ℕ) → IsCell w l 0 untouched
cell_start w l = record {
  writer = λ i a h. let x = IsPlace-at w i _ a in absurd (omega arith);
  reader = record { kept = nothing_yet; named = tt };
  reported = λ h k r g. let x = r.in_order in absurd (omega arith);
}
