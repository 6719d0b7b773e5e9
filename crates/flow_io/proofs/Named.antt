-- Looking for the file of a path, from the newest on.
use Rattle.std.proofs.Common.{◌≡◌, ℕ, ◌+◌, ◌<◌, ◌≤◌, Bool, true, false, if◌then◌else◌, is_some, List, ◌∷◌, length, drop, get_or, Option, Some, None, refl, sym, ap, ◌∙◌}
use Rattle.std.specs.Str.{bytes_eq}
use Rattle.std.proofs.lemmas.List.{at_drop_more, at_drop_all}
use Rattle.std.proofs.lemmas.Slice.Eq.{bytes_eq-Decides}
use Rattle.flow_io.specs.Files.{File, Files, file_at}

-- the first file has the path
pub file_here : (file : File) (files : Files) (path : List ℕ) → bytes_eq file.path path ≡ true → file_at (file ∷ files) path ≡ Some file.bytes
unfolding file_at
file_here file files path e = rw e refl

-- the first file has another path
pub file_further : (file : File) (files : Files) (path : List ℕ) → bytes_eq file.path path ≡ false → file_at (file ∷ files) path ≡ file_at files path
unfolding file_at
file_further file files path e = rw e refl

-- the file at an index is the one looked for
pub file_found : (files : Files) (path : List ℕ) (i : ℕ) (file : File) (bytes : Option (List ℕ)) → i < length files → file ≡ get_or files i file → bytes_eq file.path path ≡ true
    → file_at (drop i files) path ≡ bytes → Some file.bytes ≡ bytes
file_found files path i file bytes lt at e h =
    let more : file_at (drop i files) path ≡ file_at (get_or files i file ∷ drop (i + 1) files) path = at_drop_more (λ rest. file_at rest path) files i file lt in
    let here : file_at (file ∷ drop (i + 1) files) path ≡ Some file.bytes = file_here file (drop (i + 1) files) path e in
    sym here ∙ ap (λ (f : File). file_at (f ∷ drop (i + 1) files) path) at ∙ sym more ∙ h

-- the file at an index has another path
pub file_passed : (files : Files) (path : List ℕ) (i : ℕ) (file : File) (bytes : Option (List ℕ)) → i < length files → file ≡ get_or files i file → bytes_eq file.path path ≡ false
    → file_at (drop i files) path ≡ bytes → file_at (drop (i + 1) files) path ≡ bytes
file_passed files path i file bytes lt at e h =
    let more : file_at (drop i files) path ≡ file_at (get_or files i file ∷ drop (i + 1) files) path = at_drop_more (λ rest. file_at rest path) files i file lt in
    let on : file_at (file ∷ drop (i + 1) files) path ≡ file_at (drop (i + 1) files) path = file_further file (drop (i + 1) files) path e in
    sym on ∙ ap (λ (f : File). file_at (f ∷ drop (i + 1) files) path) at ∙ sym more ∙ h

-- past the last file there is none
pub file_missing : (files : Files) (path : List ℕ) (i : ℕ) (bytes : Option (List ℕ)) → length files ≤ i → file_at (drop i files) path ≡ bytes → None ≡ bytes
unfolding file_at
file_missing files path i bytes le h = let none : file_at (drop i files) path ≡ None = at_drop_all (λ rest. file_at rest path) files i le in sym none ∙ h

-- a path has a file, once it was added
pub has_added : (files new : Files) (file : File) (path : List ℕ) → new ≡ file ∷ files → file.path ≡ path → is_some (file_at new path) ≡ true
has_added files new file path e same =
    let found : file_at (file ∷ files) path ≡ Some file.bytes = file_here file files path ((bytes_eq-Decides file.path path).1 same) in
    ap (λ (fs : Files). is_some (file_at fs path)) e ∙ ap is_some found

-- and has one still, once another path was
pub stays_added : (file : File) (files : Files) (path : List ℕ) → is_some (file_at files path) ≡ true → is_some (file_at (file ∷ files) path) ≡ true
unfolding file_at
stays_added file files path h = either (bytes_eq file.path path) (file_at files path) h
  where
    either : (b : Bool) (o : Option (List ℕ)) → is_some o ≡ true → is_some (if b then Some file.bytes else o) ≡ true
    either true o h = refl
    either false o h = h
