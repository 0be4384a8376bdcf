-- What an import adds to a heap, and what it has left to do.
use Rattle.std.specs.Prelude.{◌≡◌, ◌⊎◌, ℕ, zero, suc, ◌+◌, ◌*◌, ◌≤◌, ◌<◌, List, [], ◌∷◌, ◌++◌, map, reverse, length}
use Rattle.std.specs.Borrow.{Bor}
use Rattle.wy_value.specs.Datum.{Datum, Data, no_items, item}
use Rattle.wy_value.specs.Datum as datum
use Rattle.wy_value.specs.declared.value.Value.{Value}
use Rattle.wy_value.specs.Seen.{seen}
use Rattle.wy_value.specs.Values.{IsDatum, length_of}
use Rattle.wy_value.specs.Shapes.{IsShapes}
use Rattle.wy_heap.specs.declared.part.Part.{Part}
use Rattle.wy_heap.specs.declared.heap.Heap.{Heap}
use Rattle.wy_heap.specs.Nodes.{Form, Map, map_of, count_at}
use Rattle.wy_heap.specs.Meaning.{data_in, Means, MeanAll}
use Rattle.wy_heap.specs.Slots.{nth}
use Rattle.wy_heap.specs.Standing.{Counts, IsWithin}
use Rattle.wy_heap.specs.Extending.{Extends}
use Rattle.wy_heap.specs.Changing.{More, Adopts, Fits}
use Rattle.wy_heap.specs.Weighing.{trees}

-- these parts are held now in place of those before, beside the others, and each old node is as before
pub record Carries (old new : Heap) (before after : List Part) : Type 0 where
  pub counts : (others : List Part) → Counts old (before ++ others) → Counts new (after ++ others)
  pub more : More (map_of old) (map_of new)

-- the table may have grown, and the heap is within the cap where it was
pub record Grew (old new : Heap) : Type 0 where
  pub cap : new.cap ≡ old.cap
  pub copies : new.copies ≡ old.copies
  pub table : IsShapes new.shapes
  pub extends : Extends old.shapes new.shapes
  pub within : IsWithin old → IsWithin new

-- each count is as before, but that of a new node, which has one holder
abbrev pub OnlyOnes : Heap → Heap → Type 0
OnlyOnes old new = (k : ℕ) → (count_at new k ≡ count_at old k) ⊎ ((count_at old k ≡ 0) × (count_at new k ≡ 1))

-- the data right inside a datum
abbrev pub kids : Datum → Data
kids datum.Null = no_items
kids (datum.Truth b) = no_items
kids (datum.Whole z) = no_items
kids (datum.Array items) = items
kids (datum.Record fields) = data_in fields

-- the other datum has this index right inside the datum
pub record IsKid (d : Datum) (i : ℕ) (kid : Datum) : Type 0 where
  pub below : i < length_of (kids d)
  pub is : nth (kids d) i ≡ kid

-- the data with an index below this
abbrev pub front_of : ℕ → Data → Data
front_of zero ds = no_items
front_of (suc i) no_items = no_items
front_of (suc i) (item d ds) = item d (front_of i ds)

-- the data from this index on
abbrev pub rest_of : ℕ → Data → Data
rest_of zero ds = ds
rest_of (suc i) no_items = no_items
rest_of (suc i) (item d ds) = rest_of i ds

-- a datum that is begun: so many of the data right inside it are done
abbrev pub Job : Type 0
Job = Datum × ℕ

-- the jobs of the code's list, the last one first
abbrev pub job_of : (Bor Value × ℕ) → Job
job_of job = (seen job.0.now, job.1)

abbrev pub jobs_of : List (Bor Value × ℕ) → List Job
jobs_of jobs = map job_of (reverse jobs)

-- the last parts stand for what is done inside the datum, and it goes on once a part stands for the whole
pub record IsBegun (m : Map) (job : Job) (done : List Part) (then : Map → List Part → Part → Type 0) : Type 0 where
  pub lower : List Part
  pub front : List Part
  pub is : done ≡ lower ++ front
  pub many : job.1 ≤ length_of (kids job.0)
  pub mean : MeanAll m (front_of job.1 (kids job.0)) front
  pub is_datum : IsDatum job.0
  pub goes_on : (n : Map) (part : Part) → More m n → Means n job.0 part → then n lower part

-- once these jobs are done, the first one first, a part for the datum stands alone
abbrev pub Ready : Map → Datum → List Job → List Part → Type 0
Ready m d [] done = (part : Part) × (done ≡ part ∷ []) × Means m d part
Ready m d (job ∷ jobs) done = IsBegun m job done (λ n lower part. Ready n d jobs (lower ++ part ∷ []))

-- the work that a job is, and that of all jobs
abbrev pub job_work : Job → ℕ
job_work job = 1 + 2 * trees (rest_of job.1 (kids job.0))

abbrev pub works : List Job → ℕ
works [] = 0
works (job ∷ jobs) = job_work job + works jobs

-- so many last parts fit into a node of this form
abbrev pub LastFit : Map → Form → List Part → ℕ → Type 0
LastFit m form done many = (lower : List Part) × (front : List Part) × (done ≡ lower ++ front) × (length front ≡ many) × Fits m form front

-- the last parts' holds went over to a node more, which stands in their place
abbrev pub Gathers : Heap → Heap → Form → List Part → List Part → ℕ → Type 0
Gathers old new form before after many =
    (lower front : List Part) → before ≡ lower ++ front → length front ≡ many → (part : Part) × (after ≡ lower ++ part ∷ []) × Adopts old new form front part

-- so many last parts stand for the data right inside the datum
abbrev pub HasKids : Map → Datum → List Part → ℕ → Type 0
HasKids m d done many = (lower : List Part) × (front : List Part) × (done ≡ lower ++ front) × (length front ≡ many) × MeanAll m (kids d) front

-- in place of the last parts, which stand for the data right inside the datum, a part stands for the whole
abbrev pub Finishes : Map → Map → Datum → List Part → List Part → ℕ → Type 0
Finishes old new d before after many =
    (lower front : List Part) → before ≡ lower ++ front → length front ≡ many → MeanAll old (kids d) front → (part : Part) × (after ≡ lower ++ part ∷ []) × Means new d part
