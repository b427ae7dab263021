-- Files that are read one after the other, and what comes of it where one isn't.
use Rattle.cts_program.proofs.Vocabulary.{ℕ, ◌≡◌, ◌<◌, inl, inr, List, [], ◌∷◌, ◌++◌, length, Option, Some, None, replicate, append_assoc, refl, ap, ◌∙◌, subst, arith, length-replicate, Failure, kinds_in, IsAcceptedAs, IsRefusedAs, Tell, RefusesFirst, NamedFile, IsShortFile, AreContents, IsReportedAs, IsRead, IsUnread, AreRead, AreUnread, Told, nothing}

-- there are bytes of each length
many_bytes : (count : ℕ) → (bytes : List ℕ) × (length bytes ≡ count)
many_bytes count = (replicate count 0, length-replicate count 0)

-- a file that is too long holds too many bytes, whether they are given or not
pub long_file : (held : Option (List ℕ))
    → ((denoted : List ℕ) → held ≡ Some denoted → 16777216 < length denoted)
    → (bytes : List ℕ) × IsReportedAs held bytes × (IsShortFile bytes → ⊥)
long_file (Some denoted) long =
    (denoted, refl, λ short. let more = long denoted refl in omega arith)
long_file None long =
    let many = many_bytes 16777217 in (many.0, tt, λ short. omega (arith, many.1))

-- ---- one more file

-- accepted files, and one more
tell_on : (files : List NamedFile) (before mid next : Told) (contents : List (List ℕ))
    (file : NamedFile) (bytes : List ℕ) → Tell (kinds_in files) before contents mid
    → IsAcceptedAs file.0 mid bytes next
    → Tell (kinds_in (files ++ file ∷ [])) before (contents ++ bytes ∷ []) next
tell_on [] before mid next [] file bytes tell accepted =
    (next, subst (λ t. IsAcceptedAs file.0 t bytes next) tell accepted, refl)
tell_on [] before mid next (one ∷ contents) file bytes tell accepted = absurd tell
tell_on (first ∷ files) before mid next [] file bytes tell accepted = absurd tell
tell_on (first ∷ files) before mid next (one ∷ contents) file bytes (now, here, tell) accepted =
    (now, here, tell_on files now mid next contents file bytes tell accepted)

-- or one that is refused
refuse_on : (files : List NamedFile) (before mid : Told) (contents : List (List ℕ))
    (file : NamedFile) (suffix : List NamedFile) (bytes : List ℕ) (failure : Failure)
    → Tell (kinds_in files) before contents mid → IsRefusedAs file.0 mid bytes failure
    → RefusesFirst (kinds_in (files ++ file ∷ suffix)) before (contents ++ bytes ∷ []) failure
refuse_on [] before mid [] file suffix bytes failure tell refused =
    inl (subst (λ t. IsRefusedAs file.0 t bytes failure) tell refused)
refuse_on [] before mid (one ∷ contents) file suffix bytes failure tell refused = absurd tell
refuse_on (first ∷ files) before mid [] file suffix bytes failure tell refused = absurd tell
refuse_on (first ∷ files) before mid (one ∷ contents) file suffix bytes failure (now, here, tell)
    refused =
    inr (now, here, refuse_on files now mid contents file suffix bytes failure tell refused)

module _ (holds : List ℕ → Option (List ℕ)) where
  -- what it holds, after what those hold
  contents_on : (files : List NamedFile) (before mid : Told) (contents : List (List ℕ))
      (file : NamedFile) (suffix : List NamedFile) (bytes : List ℕ)
      → AreContents holds files contents → Tell (kinds_in files) before contents mid
      → IsReportedAs (holds file.1) bytes
      → AreContents holds (files ++ file ∷ suffix) (contents ++ bytes ∷ [])
  contents_on [] before mid [] file suffix bytes are tell denoted = (denoted, tt)
  contents_on [] before mid (one ∷ contents) file suffix bytes are tell denoted = absurd are
  contents_on (first ∷ files) before mid [] file suffix bytes are tell denoted = absurd tell
  contents_on (first ∷ files) before mid (one ∷ contents) file suffix bytes are (now, here, tell)
      denoted =
      (are.0, contents_on files now mid contents file suffix bytes are.1 tell denoted)

  -- no file was read
  pub none_read : AreRead holds [] nothing
  none_read = record { contents = []; are = tt; tell = refl }

  module _ {files : List NamedFile} {told : Told} (read : AreRead holds files told)
      (file : NamedFile) where
    -- so files are read, and one more
    pub read_more : {next : Told} → IsRead (holds file.1) file.0 told next
        → AreRead holds (files ++ file ∷ []) next
    read_more {next} last = record {
      contents = read.contents ++ last.bytes ∷ [];
      are = contents_on files nothing told read.contents file [] last.bytes read.are read.tell
          last.denoted;
      tell = tell_on files nothing told next read.contents file last.bytes read.tell last.accepted;
    }

    -- or one isn't read after them
    pub unread_after : (reads reads_now : List ℕ → ℕ) (suffix : List NamedFile)
        (failure : Failure)
        → IsUnread (holds file.1) (reads file.1) (reads_now file.1) file.0 told failure
        → AreUnread holds reads reads_now (files ++ file ∷ suffix) failure
    unread_after reads reads_now suffix failure (inl (inl last)) = inl (inl (record {
      contents = read.contents ++ last.bytes ∷ [];
      are = contents_on files nothing told read.contents file suffix last.bytes read.are read.tell
          last.denoted;
      refused = refuse_on files nothing told read.contents file suffix last.bytes failure read.tell
          last.refused;
    }))
    unread_after reads reads_now suffix failure (inl (inr (is, rose))) = inl (inr (
      file.0,
      is,
      record {
        prefix = files;
        file = file.1;
        suffix = suffix;
        files_are = refl;
        rose = rose;
        contents = read.contents;
        are = read.are;
        told = told;
        accepted = read.tell;
      },
    ))
    unread_after reads reads_now suffix failure (inr memory) = inr memory

  -- ---- more files

  -- what the first files hold
  contents_before : (files more : List NamedFile) (contents : List (List ℕ))
      → AreContents holds files contents → AreContents holds (files ++ more) contents
  contents_before files more [] are = tt
  contents_before [] more (one ∷ contents) are = absurd are
  contents_before (first ∷ files) more (one ∷ contents) are =
      (are.0, contents_before files more contents are.1)

  -- where one of them is refused, it is so with more after them
  refuse_before : (files more : List NamedFile) (before : Told) (contents : List (List ℕ))
      (failure : Failure) → RefusesFirst (kinds_in files) before contents failure
      → RefusesFirst (kinds_in (files ++ more)) before contents failure
  refuse_before [] more before contents failure refuses = absurd refuses
  refuse_before (first ∷ files) more before [] failure refuses = absurd refuses
  refuse_before (first ∷ files) more before (one ∷ contents) failure (inl refused) = inl refused
  refuse_before (first ∷ files) more before (one ∷ contents) failure (inr (next, here, refuses)) =
      inr (next, here, refuse_before files more next contents failure refuses)

  -- files that aren't read stop all that begins with them
  pub unread_before : (reads reads_now : List ℕ → ℕ) (files more : List NamedFile)
      (failure : Failure) → AreUnread holds reads reads_now files failure
      → AreUnread holds reads reads_now (files ++ more) failure
  unread_before reads reads_now files more failure (inl (inl last)) = inl (inl (record {
    contents = last.contents;
    are = contents_before files more last.contents last.are;
    refused = refuse_before files more nothing last.contents failure last.refused;
  }))
  unread_before reads reads_now files more failure (inl (inr (kind, is, cannot))) = inl (inr (
    kind,
    is,
    record {
      prefix = cannot.prefix;
      file = cannot.file;
      suffix = cannot.suffix ++ more;
      files_are = ap (λ fs. fs ++ more) cannot.files_are
          ∙ append_assoc cannot.prefix ((kind, cannot.file) ∷ cannot.suffix) more;
      rose = cannot.rose;
      contents = cannot.contents;
      are = cannot.are;
      told = cannot.told;
      accepted = cannot.accepted;
    },
  ))
  unread_before reads reads_now files more failure (inr memory) = inr memory
