mod Chosen
mod Computed
