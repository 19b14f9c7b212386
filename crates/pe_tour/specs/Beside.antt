-- Two walks beside each other. Where what they do at each step goes together, so do their walks of every cell: it is said
-- once, for any two walks, and whatever it is that two courses go together.
use Rattle.std.specs.Prelude.{◌≡◌, ◌<◌, ℕ, suc, ◌+◌, ◌^◌, true, false, List, [], ◌∷◌}
use Rattle.pe_base.specs.declared.place.Place.{Place}
use Rattle.pe_base.specs.Tree.Curve.{children}
use Rattle.pe_base.specs.Calls.Courses.{Courses}
use Rattle.pe_base.specs.Walk.Steps.{Steps}

-- What it is that courses of two kinds go together, and their results are in a relation. Courses go together that are made of
-- such ones.
pub record Together {Found Failure Found' Failure' : Type 0} (kind : Courses Found Failure) (kind' : Courses Found' Failure') : Type 1 where
  pub Go : {X Y : Type 0} → (X → Y → Type 0) → kind.Course X → kind'.Course Y → Type 0
  pub once : {X Y : Type 0} (R : X → Y → Type 0) (x : X) (y : Y) → R x y → Go R (kind.at_once x) (kind'.at_once y)
  pub nowhere : {X Y : Type 0} (R : X → Y → Type 0) → Go R kind.stuck kind'.stuck
  pub in_turn : {X Y V W : Type 0} (R : X → Y → Type 0) (S : V → W → Type 0)
      (course : kind.Course X) (course' : kind'.Course Y) (next : X → kind.Course V) (next' : Y → kind'.Course W)
      → Go R course course' → ((x : X) (y : Y) → R x y → Go S (next x) (next' y)) → Go S (kind.and_then course next) (kind'.and_then course' next')

-- How the states of two walks are related from step to step of a cell, with so many levels below it. What is known of a cell
-- is chosen when its walk begins, and what is known among its children when the first of them is to be walked.
pub record Stages (Between Amid Open Between' Amid' Open' : Type 0) : Type 1 where
  pub Known : ℕ → Place → Type 0
  pub Below : ℕ → Place → Type 0
  pub Before : (levels : ℕ) (cell : Place) → Known levels cell → Between → Between' → Type 0
  -- the corners below a number are not loaded yet
  pub Loading : (levels : ℕ) (cell : Place) → Known levels cell → ℕ → Amid → Amid' → Type 0
  -- the cell's record has come; the cell is entered; what is below it is walked; it is left
  pub Come : (levels : ℕ) (cell : Place) → Known levels cell → Open → Open' → Type 0
  pub Entered : (levels : ℕ) (cell : Place) → Known levels cell → Open → Open' → Type 0
  pub Walked : (levels : ℕ) (cell : Place) → Known levels cell → Open → Open' → Type 0
  pub Left : (levels : ℕ) (cell : Place) → Known levels cell → Open → Open' → Type 0
  -- the corners below a number are stored
  pub Storing : (levels : ℕ) (cell : Place) → Known levels cell → ℕ → Amid → Amid' → Type 0
  pub After : (levels : ℕ) (cell : Place) → Known levels cell → Between → Between' → Type 0
  -- these children are not walked yet
  pub Among : (levels : ℕ) (cell : Place) → Below levels cell → List Place → Between → Between' → Type 0

-- The steps of two walks match: each leads both of them to the next stage.
pub record StepsMatch {Found Failure Found' Failure' Between Amid Open Between' Amid' Open' : Type 0} {kind : Courses Found Failure} {kind' : Courses Found' Failure'}
    (together : Together kind kind') (first : Steps kind Between Amid Open) (second : Steps kind' Between' Amid' Open')
    (stages : Stages Between Amid Open Between' Amid' Open') : Type 0 where
  pub axes : second.axes ≡ first.axes
  pub way : second.way ≡ first.way
  pub counts : (levels : ℕ) (cell : Place) (known : stages.Known levels cell) (a : Between) (b : Between') → stages.Before levels cell known a b
      → together.Go (stages.Loading levels cell known (2 ^ first.axes)) (first.count cell a) (second.count cell b)
  pub loads : (levels : ℕ) (cell : Place) (known : stages.Known levels cell) (k : ℕ) (v : Amid) (w : Amid') → k < 2 ^ first.axes → stages.Loading levels cell known (suc k) v w
      → together.Go (stages.Loading levels cell known k) (first.load cell k v) (second.load cell k w)
  pub comes : (levels : ℕ) (cell : Place) (known : stages.Known levels cell) (v : Amid) (w : Amid') → stages.Loading levels cell known 0 v w
      → together.Go (stages.Come levels cell known) (first.comes cell v) (second.comes cell w)
  pub enters : (levels : ℕ) (cell : Place) (known : stages.Known levels cell) (v : Open) (w : Open') → stages.Come levels cell known v w
      → together.Go (stages.Entered levels cell known) (first.enter cell v) (second.enter cell w)
  -- both walk the children of a cell, or neither does
  pub goes_on : (levels : ℕ) (cell : Place) (known : stages.Known levels cell) (v : Open) (w : Open') → stages.Entered levels cell known v w
      → second.goes_on w ≡ first.goes_on v
  pub idles : (levels : ℕ) (cell : Place) (known : stages.Known levels cell) (v : Open) (w : Open') → stages.Entered levels cell known v w
      → first.goes_on v ≡ false → stages.Walked levels cell known v w
  -- the way down to the children, and with it the way back
  pub opens : (levels : ℕ) (cell : Place) (known : stages.Known levels cell) (v : Open) (w : Open') → stages.Entered levels cell known v w
      → first.goes_on v ≡ true
      → (below : stages.Below levels cell) × stages.Among levels cell below (children first.axes first.way cell) (first.down v) (second.down w)
      × ((a : Between) (b : Between') → stages.Among levels cell below [] a b → stages.Walked levels cell known (first.up v a) (second.up w b))
  -- to a child, and with it on to the next one
  pub begins : (levels : ℕ) (cell : Place) (below : stages.Below (suc levels) cell) (child : Place) (rest : List Place) (a : Between) (b : Between')
      → stages.Among (suc levels) cell below (child ∷ rest) a b
      → (known : stages.Known levels child) × stages.Before levels child known a b
      × ((a : Between) (b : Between') → stages.After levels child known a b → stages.Among (suc levels) cell below rest a b)
  pub leaves : (levels : ℕ) (cell : Place) (known : stages.Known levels cell) (v : Open) (w : Open') → stages.Walked levels cell known v w
      → together.Go (stages.Left levels cell known) (first.leave cell v) (second.leave cell w)
  pub goes : (levels : ℕ) (cell : Place) (known : stages.Known levels cell) (v : Open) (w : Open') → stages.Left levels cell known v w
      → together.Go (stages.Storing levels cell known 0) (first.goes cell v) (second.goes cell w)
  -- both store all corners
  pub holds : (levels : ℕ) (cell : Place) (known : stages.Known levels cell) (v : Amid) (w : Amid') → stages.Storing levels cell known 0 v w
      → (first.held v ≡ 2 ^ first.axes) × (second.held w ≡ 2 ^ first.axes)
  pub stores : (levels : ℕ) (cell : Place) (known : stages.Known levels cell) (k : ℕ) (v : Amid) (w : Amid') → k < 2 ^ first.axes → stages.Storing levels cell known k v w
      → together.Go (stages.Storing levels cell known (k + 1)) (first.store cell k v) (second.store cell k w)
  pub closes : (levels : ℕ) (cell : Place) (known : stages.Known levels cell) (v : Amid) (w : Amid') → stages.Storing levels cell known (2 ^ first.axes) v w
      → stages.After levels cell known (first.close v) (second.close w)
